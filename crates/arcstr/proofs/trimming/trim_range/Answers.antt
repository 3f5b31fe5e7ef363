use Rattle.arcstr.proofs.Texts.{IsLawful-trim}
use Rattle.arcstr.proofs.trimming.trim_range.Goals as goal

pub returns-clause-lawful : goal.returns-clause-lawful
returns-clause-lawful c =
    IsLawful-trim _ _ _ _ _ c.utf8.text c.whole.ensures.value c.trim.ensures.longest c.range.ensures.start c.range.ensures.end
