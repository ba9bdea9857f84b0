use Rattle.std.proofs.Common.{◌≡◌, ◌+◌, [], ◌∷◌, ◌++◌, length, refl, arith, length-append}
use Rattle.file_cursor.proofs.Stepping.{value_space, value_end}
use Rattle.file_cursor.proofs.Cursor.on_got.Goals as goal

pub returns-in-32-clause-by_index : goal.returns-in-32-clause-by_index
returns-in-32-clause-by_index c = λ ns vss vs v q.
    let more : c.args.self.got + 1 ≡ length (vs ++ (v ∷ [])) = omega (arith, q.3, length-append vs (v ∷ [])) in
    value_space _ ns vss vs v c.args.b _ _ c.then_some.ensures c.in-32.is (grind (arith, q.1, q.3)) (refl, q.1, q.2, more, q.4)

pub returns-in-10-clause-by_index : goal.returns-in-10-clause-by_index
returns-in-10-clause-by_index c = λ ns vss vs v q.
    let line : c.args.self.lines + 1 ≡ length (vss ++ ((vs ++ (v ∷ [])) ∷ [])) = omega (arith, q.4, length-append vss ((vs ++ (v ∷ [])) ∷ [])) in
    value_end _ ns vss vs v c.args.b _ _ c.then_some-in-10.ensures c.in-10.is (grind (arith, q.1, q.3)) (refl, q.1, q.2, refl, line)
