use mathlib.Core.Path.{sym, subst}
use Rattle.spec_calls.specs.Tables.{lent_nodes}
use Rattle.spec_calls.specs.Refusals.{report}
use Rattle.spec_calls.specs.Promises.{TrialPromise}
use Rattle.call_trial.proofs.Laws.{concluded}
use Rattle.call_trial.proofs.conclude.Goals as goal

pub returns : goal.returns
returns c = λ records rows book list h. subst (λ x. TrialPromise (lent_nodes c.args.layout c.args.n records rows) book list (report x)) (sym c.settled.ensures) (concluded (lent_nodes c.args.layout c.args.n records rows) book list c.leaf_count.result c.leaf_count.ensures c.args.work.now c.at_end.result c.args.waiting c.at_end.ensures h)
