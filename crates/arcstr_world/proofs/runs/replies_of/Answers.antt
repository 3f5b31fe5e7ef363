use Rattle.arcstr_world.proofs.Names.{◌≡◌, ◌++◌, [], ◌∷◌, if◌then◌else◌, get_or, take, refl, ◌∙◌, ap, take_more, take_all, Make}
use Rattle.arcstr_world.proofs.LawsOfWorlds.{takes_more}
use Rattle.arcstr_world.proofs.runs.replies_of.Goals as goal

pub loop-step-init : goal.loop-step-init
loop-step-init g c = record {
  limited = refl;
  state = refl;
  replied = c.new-replies.ensures.items;
}

pub loop-step-preserved : goal.loop-step-preserved
loop-step-preserved g c =
    let within = c.loop-step-test.true in
    let pushed : c.push.new.self.items ≡ c.loop-step.replies.items ++ c.in_ok-reply.reply ∷ [] =
    c.push.ensures.items
    ∙ ap (λ t. if t then c.loop-step.replies.items ++ c.in_ok-reply.reply ∷ [] else c.loop-step.replies.items) c.if-is_err.ensures.negation in
    rw (take_more c.args.steps.now c.loop-step.step-index Make within, pushed)
    (takes_more c.args.world (take c.loop-step.step-index c.args.steps.now) c.loop-step.world c.step.new.self
    c.loop-step.replies.items (get_or c.args.steps.now c.loop-step.step-index Make) c.in_ok-reply.reply
    c.loop-step.invariant c.in_ok-reply.ensures.stepped c.step.ensures.limit)

pub returns-clause-replies : goal.returns-clause-replies
returns-clause-replies g c =
    let whole = take_all c.loop-step.step-index c.args.steps.now c.loop-step-test.false in
    rw c.loop-step.invariant.replied (rw whole refl)
