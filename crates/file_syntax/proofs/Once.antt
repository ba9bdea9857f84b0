-- What a file holds is determined, so `FileHolds` has one proof at most: a struct can keep it.
use Rattle.std.proofs.Common.{◌≡◌, ◌≢◌, ℕ, ◌≤◌, List, [], ◌∷◌, length, sym, ap, ◌∙◌, ◌⊎◌, inl, inr}
use mathlib.Core.HLevel.{is_prop→PathP}
use denote.Struct.Props.{props}
use Rattle.spec_orders.specs.Lists.{All, Distinct, In}
use Rattle.spec_orders.proofs.Members.{all_in}
use Rattle.file_syntax.specs.RingFile.{alphabet, NameByte, Name, Names, Value, file_bytes, line, Rules, FileHolds}
use Rattle.file_syntax.proofs.Words.{distinct_alphabet}
use Rattle.file_syntax.proofs.Exact.{parts_once}

either_prop : {B C : Type 0} → IsProp B → IsProp C → (B → C → ⊥) → IsProp (B ⊎ C)
either_prop b c h (inl x) (inl y) = ap inl (b x y)
either_prop b c h (inl x) (inr y) = absurd (h x y)
either_prop b c h (inr x) (inl y) = absurd (h y x)
either_prop b c h (inr x) (inr y) = ap inr (c x y)

module _ {A : Type 0} where
  All-prop : (P : A → Type 0) → ((x : A) → IsProp (P x)) → (l : List A) → IsProp (All P l)
  All-prop P h [] = hlevel
  All-prop P h (x ∷ l) = hlevel (h x, All-prop P h l)

  Distinct-prop : (l : List A) → IsProp (Distinct l)
  Distinct-prop [] = hlevel
  Distinct-prop (x ∷ l) = hlevel (All-prop (λ y. x ≢ y) (λ y. hlevel) l, Distinct-prop l)

In-prop : (x : ℕ) (l : List ℕ) → Distinct l → IsProp (In x l)
In-prop x [] d = hlevel
In-prop x (y ∷ l) d = either_prop (hlevel props) (In-prop x l d.1) (λ e i. all_in (λ z. y ≢ z) x l d.0 i (sym e))

Name-prop : (w : List ℕ) → IsProp (Name w)
Name-prop w = hlevel (props, All-prop NameByte (λ b. In-prop b alphabet distinct_alphabet) w)

Names-prop : (ns : List (List ℕ)) → IsProp (Names ns)
Names-prop ns = hlevel (props, All-prop Name Name-prop ns, Distinct-prop ns)

Rules-prop : (ns : List (List ℕ)) (vss : List (List Value)) → IsProp (Rules ns vss)
Rules-prop ns vss = hlevel (Names-prop ns, All-prop (λ vs. length vs ≡ length ns) (λ vs. hlevel props) vss)

pub FileHolds-prop : (x : List ℕ) (n h l : ℕ) → IsProp (FileHolds x n h l)
FileHolds-prop x n h l f g =
    let e = parts_once f.ns g.ns f.vss g.vss f.rules g.rules (sym f.bytes ∙ g.bytes) in
    let bytes-prop : (ns : List (List ℕ)) (vss : List (List Value)) → IsProp (x ≡ file_bytes ns vss) = hlevel props in
    let size-prop : IsProp (length x ≤ 65536) = hlevel props in
    let leaves-prop : (ns : List (List ℕ)) → IsProp (n ≡ length ns) = hlevel props in
    let head-prop : (ns : List (List ℕ)) → IsProp (h ≡ length (line ns)) = hlevel props in
    let lines-prop : (vss : List (List Value)) → IsProp (l ≡ length vss) = hlevel props in
    λ i. record {
      ns = e.0 i;
      vss = e.1 i;
      rules = is_prop→PathP (λ j. Rules (e.0 j) (e.1 j)) (λ j. Rules-prop (e.0 j) (e.1 j)) f.rules g.rules i;
      bytes = is_prop→PathP (λ j. x ≡ file_bytes (e.0 j) (e.1 j)) (λ j. bytes-prop (e.0 j) (e.1 j)) f.bytes g.bytes i;
      size = size-prop f.size g.size i;
      leaves = is_prop→PathP (λ j. n ≡ length (e.0 j)) (λ j. leaves-prop (e.0 j)) f.leaves g.leaves i;
      head = is_prop→PathP (λ j. h ≡ length (line (e.0 j))) (λ j. head-prop (e.0 j)) f.head g.head i;
      lines = is_prop→PathP (λ j. l ≡ length (e.1 j)) (λ j. lines-prop (e.1 j)) f.lines g.lines i;
    }
