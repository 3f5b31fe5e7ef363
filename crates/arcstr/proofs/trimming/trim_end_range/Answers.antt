use Rattle.arcstr.proofs.Texts.{IsLawful-trim_end}
use Rattle.arcstr.proofs.trimming.trim_end_range.Goals as goal

pub returns-clause-lawful : goal.returns-clause-lawful
returns-clause-lawful c =
    IsLawful-trim_end _ _ _ _ _ c.utf8.text c.whole.ensures.value c.trim_end.ensures.longest c.range.ensures.start c.range.ensures.end
