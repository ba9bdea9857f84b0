-- Document 01, "Ring file and lister": what the lister prints for a ring file. Lines stand here without their byte 10.
use Rattle.std.specs.Prelude.{◌≡◌, cond, List, [], ◌∷◌, ◌++◌, map, ℕ, suc, ◌+◌, ◌-◌, ◌≤◌, ◌<◌, eqb, ltb, length, get_or, take, drop}
use Rattle.std.proofs.Math.Option.{Option, none, some}
use Rattle.spec_orders.specs.declared.Layout.TheVariants.{Ring}
use Rattle.spec_orders.specs.Lists.{elem}
use Rattle.spec_orders.specs.CircularOrder.{Restriction}
use Rattle.spec_orders.specs.Tree.{Forest}
use Rattle.spec_orders.specs.Form.{standard}
use Rattle.spec_orders.specs.TreeText.{digits, tree_text}
use Rattle.spec_orders.specs.Join.{fresh, join}
use Rattle.spec_orders.specs.Conflict.{book_conflicts, numbered}
use Rattle.spec_orders.specs.Aim.{aim_of}
use Rattle.spec_orders.specs.Circles.{bytes}
use Rattle.file_syntax.specs.RingFile.{Value, file_bytes, Rules, leaves_on, FileRefused}

-- "Joins the lines to a fresh ring in turn": the ring's tree, the groups of its book, and the input line of each of them.
pub record RingState : Type 0 where
  pub tree : Forest
  pub groups : List Restriction
  pub lines : List ℕ

abbrev pub opened : ℕ → RingState
opened n = record { tree = fresh n; groups = []; lines = [] }

-- A group line has the group of its leaves. What it comes to: "`kept`", with the new tree; "`refused` (8)", with the numbers of the book's groups in
-- conflict; "`full` (7)". 7 comes before 8. Document 02, No. 2: a line with no leaf is such a line too, "`kept`" or "`full` where 7 applies".
pub data Outcome : Type 0 where
  kept : Forest → Outcome
  refused : List ℕ → Outcome
  full : Outcome

abbrev pub joined : ℕ → RingState → Restriction → Option Forest → Outcome
joined n s G (some t) = kept t
joined n s G none = refused (book_conflicts Ring n (numbered s.groups) (length s.groups) G)

unfoldable pub outcome : ℕ → RingState → List ℕ → Outcome
outcome n s list = cond (eqb (length s.groups) 96) full (joined n s (elem list) (join (elem list) s.tree))

-- The ring after the group line with number k; after the lines from number k on; after the first l of all lines.
abbrev pub next : RingState → ℕ → List ℕ → Outcome → RingState
next s k list (kept t) = record { tree = t; groups = s.groups ++ (elem list ∷ []); lines = s.lines ++ (k ∷ []) }
next s k list (refused ns) = s
next s k list full = s

unfoldable pub run : ℕ → RingState → ℕ → List (List ℕ) → RingState
run n s k [] = s
run n s k (list ∷ lists) = run n (next s k list (outcome n s list)) (suc k) lists

unfoldable pub state_at : ℕ → List (List ℕ) → ℕ → RingState
state_at n lists l = run n (opened n) 1 (take l lists)

-- Words with one byte between; the name of leaf b.
abbrev pub between : ℕ → List (List ℕ) → List ℕ
between c [] = []
between c (w ∷ []) = w
between c (w ∷ (v ∷ ws)) = w ++ (c ∷ between c (v ∷ ws))

abbrev pub name : List (List ℕ) → ℕ → List ℕ
name names b = get_or names (b - 1) []

-- "The input lines in conflict, rising, joined by commas": those of the groups with these numbers, where group 1 has the first of the lines.
abbrev pub commas : List ℕ → List ℕ → List ℕ
commas lines numbers = between 44 (map (λ j. digits (get_or lines (j - 1) 0)) numbers)

-- "The aim's name in the final order." Document 02, No. 2: "aim `-`" where the group has no leaf.
abbrev pub aim_field : List (List ℕ) → List ℕ → List ℕ → List ℕ
aim_field names ord [] = bytes "-"
aim_field names ord (b ∷ l) = name names (aim_of Ring (elem (b ∷ l)) ord)

-- "Fields: group line from 1; `kept`, `refused` [...] or `full`; the aim's name in the final order; the input lines in conflict. `-` marks a field
-- that does not apply. One space stands between fields." What follows the line's number.
unfoldable pub fields : List (List ℕ) → List ℕ → RingState → List ℕ → Outcome → List ℕ
fields names ord s list (kept t) = bytes " kept " ++ (aim_field names ord list ++ bytes " -")
fields names ord s list (refused ns) = bytes " refused - " ++ commas s.lines ns
fields names ord s list full = bytes " full - -"

-- The printed lines of the group lines from number k on.
unfoldable pub group_lines : List (List ℕ) → List ℕ → RingState → ℕ → List (List ℕ) → List (List ℕ)
group_lines names ord s k [] = []
group_lines names ord s k (list ∷ lists) =
    let o = outcome (length names) s list in
    (digits k ++ fields names ord s list o) ∷ group_lines names ord (next s k list o) (suc k) lists

-- "Under `order` stand the names in standard order with one space between, under `tree` the tree text."
abbrev pub spaced_names : List (List ℕ) → List ℕ → List ℕ
spaced_names names order = between 32 (map (name names) order)

-- All printed lines for these names and these groups, one group a line. "The first line is the fixed text."
unfoldable pub listing : List (List ℕ) → List (List ℕ) → List (List ℕ)
listing names lists =
    let n = length names in
    let t = (run n (opened n) 1 lists).tree in
    bytes "line answer aim conflict"
    ∷ (group_lines names (standard t) (opened n) 1 lists ++ (bytes "order" ∷ spaced_names names (standard t) ∷ bytes "tree" ∷ tree_text t ∷ []))

-- "A malformed file gives only `error 11 at byte B`."
unfoldable pub error_line : ℕ → List ℕ
error_line p = bytes "error 11 at byte " ++ digits p

-- All printed lines of the file x: an accepted file has its listing; above 65,536 bytes B is 65,536.
pub data Lists (x : List ℕ) : List (List ℕ) → Type 0 where
  accepted : {ns : List (List ℕ)} {vss : List (List Value)} → Rules ns vss → x ≡ file_bytes ns vss → length x ≤ 65536 → Lists x (listing ns (map leaves_on vss))
  too_long : 65536 < length x → Lists x (error_line 65536 ∷ [])
  malformed : {p : ℕ} → length x ≤ 65536 → FileRefused x p → Lists x (error_line p ∷ [])

-- "Every printed line, an error line too, ends with byte 10."
abbrev pub printed : List (List ℕ) → List ℕ
printed [] = []
printed (l ∷ ls) = l ++ (10 ∷ printed ls)

-- The team's choice: the lines are handed out in parts. Of these lines those that go to so many bytes, each with its byte 10: one is printed only
-- while 4,096 bytes are left.
abbrev pub printable : ℕ → List (List ℕ) → List (List ℕ)
printable room [] = []
printable room (l ∷ ls) = cond (ltb room 4096) [] (l ∷ printable (room - (length l + 1)) ls)

-- The lines of the part from the line with number `from` on, where so many bytes are lent.
abbrev pub lines_from : List (List ℕ) → ℕ → ℕ → List (List ℕ)
lines_from ls from room = printable room (drop from ls)
