use mathlib.Core.Path.{refl}
use Rattle.list_bytes.proofs.Laws.{copy_appends}
use Rattle.list_bytes.proofs.put.Goals as goal

pub returns : goal.returns
returns c = copy_appends c.copy_from_slice.ensures.after refl
