-- A text has one outcome (`reads_once`): of accepted texts, bytes of a wrong shape and bytes of a broken rule, `Reads` says at most one of a text.
-- So what the reader finds is determined by the text and n. A text has one tree (`TextTree.text_injective`); one that is sorted breaks no rule; the
-- byte of a wrong shape is one (`FirstByte`), and so is that of a broken rule.
use mathlib.Core.Path.{◌≡◌, refl, sym, ◌∙◌, ap, subst}
use mathlib.Core.Logic.{◌⊎◌, inl, inr}
use mathlib.Core.List.{List}
use Prim.Native.Nat.{ℕ, ◌<◌}
use native.Mathlib.Omega.{arith}
use Rattle.spec_orders.specs.Tree.{Kind, P, C, Forest, nil, leaf, node, items}
use Rattle.spec_orders.specs.Form.{first, Rises, Rising, Sorted, Every, InForm}
use Rattle.spec_orders.specs.ThreeNeighbours.{relabel}
use Rattle.spec_orders.specs.TreeText.{tree_text, Shaped, ShapeText, Breaks, leaf_falls, node_falls, wrong_way, inside, after_leaf, after_node, RuleRefused, AcceptedAs, Found, tree, refused, Reads, accepted, no_shape, breaks_rule}
use Rattle.spec_orders.proofs.Rearranged.{perm_refl}
use Rattle.spec_orders.proofs.Laws.{every_map, Node-canonical}
use Rattle.spec_orders.proofs.Forms.{form_forked}
use Rattle.spec_orders.proofs.Relabel.{relabel_form, relabel-same, form_enough}
use Rattle.spec_orders.proofs.TextTree.{text_injective}
use Rattle.spec_orders.proofs.FirstByte.{not_refused, refused_once}

-- The items of a P-node rise, after one whose first leaf is m (0: after none).
abbrev Fits : Kind → ℕ → Forest → Type 0
Fits P m f = ((m ≡ 0) × Rising (items f)) ⊎ Rises m (items f)
Fits C m f = Unit {0}

not_less : (m : ℕ) (b : ℕ) → ((m ≡ 0) ⊎ (m < b)) → b < m → ⊥
not_less m b (inl e) h = omega arith
not_less m b (inr l) h = omega arith

leaf_fits : (m b : ℕ) (f : Forest) → Fits P m (leaf b f) → ((m ≡ 0) ⊎ (m < b)) × Fits P b f
leaf_fits m b f (inl r) = (inl r.0, inr r.1)
leaf_fits m b f (inr r) = (inr r.0, inr r.1)

node_fits : (m : ℕ) (k : Kind) (i f : Forest) → Fits P m (node k i f) → ((m ≡ 0) ⊎ (m < first i)) × Fits P (first i) f
node_fits m k i f (inl r) = (inl r.0, inr r.1)
node_fits m k i f (inr r) = (inr r.0, inr r.1)

keeps_rules : {k : Kind} {m o p : ℕ} {f : Forest} → Every Sorted f → Fits k m f → Breaks k m o f p → ⊥
keeps_rules {m = m} c g (leaf_falls {b = b} {f = f} h) = not_less m b (leaf_fits m b f g).0 h
keeps_rules {m = m} c g (node_falls {k = j} {i = i} {f = f} h) = not_less m (first i) (node_fits m j i f g).0 h
keeps_rules c g (wrong_way h) = omega (arith, c.0.0)
keeps_rules c g (inside {j = P} w) = keeps_rules c.0.1 (inl (refl, c.0.0)) w
keeps_rules c g (inside {j = C} w) = keeps_rules c.0.1 tt w
keeps_rules {m = m} c g (after_leaf {k = P} {b = b} {f = f} w) = keeps_rules c (leaf_fits m b f g).1 w
keeps_rules c g (after_leaf {k = C} w) = keeps_rules c tt w
keeps_rules {m = m} c g (after_node {k = P} {j = j} {i = i} {f = f} w) = keeps_rules c.1 (node_fits m j i f g).1 w
keeps_rules c g (after_node {k = C} w) = keeps_rules c.1 tt w

-- A tree whose items are sorted breaks no rule; a rule is broken first at one byte.
pub sorted_keeps : {p : ℕ} {t : Forest} → Every Sorted t → Breaks C 0 2 t p → ⊥
sorted_keeps s w = keeps_rules {k = C} {m = 0} s tt w

pub rule_once : {t : Forest} {p q : ℕ} → RuleRefused t p → RuleRefused t q → p ≡ q
rule_once {p = p} {q} a b = omega (arith, a.least q b.broken, b.least p a.broken)

-- What is found in a text is in form.
pub found_form : {n : ℕ} {x : List ℕ} {t : Forest} → Reads n x (tree t) → InForm n t
found_form {n} (accepted {t = u} h) = relabel_form n u h.shaped h.sorted

-- The text of a tree in form is accepted, and the tree is found in it.
form_accepted : {n : ℕ} {t : Forest} → InForm n t → AcceptedAs n (tree_text t) t
form_accepted {n} {t} f = record {
  shaped = record { single = f.single; forked = form_forked n t f; all_leaves = f.all_leaves };
  sorted = every_map Node-canonical Sorted (λ k i q. q.1) t f.canonical;
  bytes = refl;
}

pub form_reads : {n : ℕ} {t : Forest} → InForm n t → Reads n (tree_text t) (tree t)
form_reads {n} {t} f = subst (λ (u : Forest). Reads n (tree_text t) (tree u)) (relabel-same t (form_enough f)) (accepted (form_accepted f))

-- A text with a tree of the shape is of the shape, and has one tree.
shape_text : {n : ℕ} {x : List ℕ} {t : Forest} → Shaped n t → x ≡ tree_text t → ShapeText n x
shape_text {t = t} s e = record { tree = t; shaped = s; bytes = e }

same_tree : {x : List ℕ} {t u : Forest} → x ≡ tree_text t → x ≡ tree_text u → t ≡ u
same_tree {t = t} {u} e d = text_injective t u (sym e ∙ d)

pub reads_once : {n : ℕ} {x : List ℕ} {f g : Found} → Reads n x f → Reads n x g → f ≡ g
reads_once (accepted h) (accepted k) = ap (λ (t : Forest). tree (relabel t)) (same_tree h.bytes k.bytes)
reads_once (accepted h) (no_shape s) = absurd (not_refused (ShapeText _) (shape_text h.shaped h.bytes) s)
reads_once (accepted h) (breaks_rule {p = p} s d r) = absurd (sorted_keeps h.sorted (subst (λ (u : Forest). Breaks C 0 2 u p) (same_tree d h.bytes) r.broken))
reads_once (no_shape s) (accepted h) = absurd (not_refused (ShapeText _) (shape_text h.shaped h.bytes) s)
reads_once (no_shape s) (no_shape r) = ap refused (refused_once (ShapeText _) s r)
reads_once (no_shape s) (breaks_rule k e r) = absurd (not_refused (ShapeText _) (shape_text k e) s)
reads_once (breaks_rule {p = p} s d r) (accepted h) = absurd (sorted_keeps h.sorted (subst (λ (u : Forest). Breaks C 0 2 u p) (same_tree d h.bytes) r.broken))
reads_once (breaks_rule k e r) (no_shape s) = absurd (not_refused (ShapeText _) (shape_text k e) s)
reads_once (breaks_rule s d r) (breaks_rule {p = q} k e w) = ap refused (rule_once r (subst (λ (u : Forest). RuleRefused u q) (same_tree e d) w))

panel : (k : Kind) → Sorted k (leaf 2 (leaf 3 nil)) → AcceptedAs 3 (tree_text (node k (leaf 2 (leaf 3 nil)) nil)) (node k (leaf 2 (leaf 3 nil)) nil)
panel k s = record { shaped = record { single = tt; forked = ((omega arith, tt), tt); all_leaves = perm_refl _ }; sorted = ((s, tt), tt); bytes = refl }

-- "Two panels showed `1 C(2 3)` and `1 P(2 3)` for rings that allow the same orders": in both texts one tree is found.
pub two_panels : (k : Kind) → Reads 3 (tree_text (node k (leaf 2 (leaf 3 nil)) nil)) (tree (node P (leaf 2 (leaf 3 nil)) nil))
two_panels P = accepted (panel P (omega arith, tt))
two_panels C = accepted (panel C (omega arith))
