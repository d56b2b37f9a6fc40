use Rattle.std.proofs.Common.{◌∙◌, arith}
use Rattle.design.proofs.Places.{read}
use Rattle.step.proofs.Entries.{first_entry, status_within, status_entry, mark_entry}
use Rattle.step.proofs.interface.wrong_entry.Goals as goal

pub returns-in-Some : goal.returns-in-Some
returns-in-Some c = λ d e. first_entry d c.args.entries (omega arith) (omega arith) _ (c.in-Some.ensures d e)

pub overflow_add-result : goal.overflow_add-result
overflow_add-result c =
    let t = read _ c.requires.0 in
    omega (arith, status_within t.tree c.args.entries (omega arith) (omega arith) _ (c.in-Some-wrong_status.ensures t.tree t.is))

pub returns-in-Some-wrong_status : goal.returns-in-Some-wrong_status
returns-in-Some-wrong_status c =
    λ d e. status_entry d c.args.entries (omega arith) (omega arith) (c.in_default.ensures d e) _ (c.in-Some-wrong_status.ensures d e)

pub returns : goal.returns
returns c =
    λ d e. c.then_some.ensures
    ∙ mark_entry d c.args.entries (omega arith) (omega arith) (c.in_default.ensures d e) (c.in_default-wrong_status.ensures d e)
