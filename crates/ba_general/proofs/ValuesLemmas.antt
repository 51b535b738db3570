-- Operands, terms and lessons that are others with values for some of their variables.
use Rattle.std.proofs.Common.{◌≡◌, ℕ, zero, suc, ◌⊎◌, inl, inr, List, [], ◌∷◌, ◌++◌, map, Contains, refl, sym, ap, ap₂, ◌∙◌, subst}
use Rattle.std.proofs.lemmas.List.Elements.{Contains-append_cases, Contains-append_left, Contains-append_right}
use Rattle.std.proofs.lemmas.Option.{same_Some}
use Rattle.std.specs.List.{AllZip, zip}
use Rattle.std.specs.Prelude.{Option, Some, None, slice_get, option_and_then, option_map}
use Rattle.ba_model.proofs.ElementLemmas.{Contains-cases, Contains-head, Contains-later, Contains-nil}
use Rattle.ba_model.specs.declared.query.Atom.{Atom}
use Rattle.ba_model.specs.declared.query.Op.{Op}
use Rattle.ba_model.specs.declared.query.Op.TheVariants.{Eq}
use Rattle.ba_model.specs.declared.query.Operand.{Operand}
use Rattle.ba_model.specs.declared.query.Operand.TheVariants as operands
use Rattle.ba_model.specs.declared.query.Part.{Part}
use Rattle.ba_model.specs.declared.query.Query.{Query}
use Rattle.ba_model.specs.declared.value.Value.{Value}
use Rattle.ba_facts.specs.Known.{Equated, Known, OneClass}
use Rattle.ba_facts.specs.Matches.{term_of}
use Rattle.ba_facts.specs.declared.term.Lesson.{Lesson}
use Rattle.ba_facts.specs.declared.term.Lesson.TheVariants.{Same, Holds}
use Rattle.ba_facts.specs.declared.term.Term.{Term}
use Rattle.ba_facts.specs.declared.term.Term.TheVariants as terms
use Rattle.ba_kernel.specs.Effects.{lesson_of, same_of}
use Rattle.ba_kernel.specs.Problems.{atom_at, operand_at, part_at, query_at, variable_at}
use Rattle.ba_kernel.specs.declared.problem.ProblemEntry.{ProblemEntry}
use Rattle.ba_general.proofs.KnowledgeLemmas.{Follows, LearnedOf}

-- ---- the first is the second with values for some variables

-- the literal that the variable stands for
pub record StandsFor (values : List Value) (v : Value) (n : ℕ) : Type 0 where
  pub is : slice_get values n ≡ Some v

abbrev pub OperandAt : List Value → Operand → Operand → Type 0
OperandAt values x y = (y ≡ x) ⊎ ((v : Value) × (n : ℕ) × StandsFor values v n × (x ≡ operands.Val v) × (y ≡ operands.Var n))

abbrev pub TermAt : List Value → Term → Term → Type 0
TermAt values t u = (u ≡ t) ⊎ ((v : Value) × (n : ℕ) × StandsFor values v n × (t ≡ terms.Val v) × (u ≡ terms.Var n))

pub record AtomAt (values : List Value) (x y : Atom) : Type 0 where
  pub op : y.op ≡ x.op
  pub left : OperandAt values x.left y.left
  pub right : OperandAt values x.right y.right

pub record PartAt (values : List Value) (x y : Part) : Type 0 where
  pub from : y.from ≡ x.from
  pub conds : AllZip (AtomAt values) x.conds y.conds
  pub head : AllZip (OperandAt values) x.head y.head

abbrev pub QueryAt : List Value → Query → Query → Type 0
QueryAt values x y = AllZip (PartAt values) x.parts y.parts

pub record EntryAt (values : List Value) (x y : ProblemEntry) : Type 0 where
  pub query : QueryAt values x.query y.query
  pub row : AllZip (OperandAt values) x.row y.row

abbrev pub LessonAt : List Value → Lesson → Lesson → Type 0
LessonAt values (Same a b) (Same c d) = TermAt values a c × TermAt values b d
LessonAt values (Same a b) (Holds y) = ⊥
LessonAt values (Holds x) (Same c d) = ⊥
LessonAt values (Holds x) (Holds y) = (y.op ≡ x.op) × TermAt values x.left y.left × TermAt values x.right y.right

-- ---- lists in step

pub zip_all : {X Y : Type 0} (R : X → Y → Type 0) (f : Y → X) → ((y : Y) → R (f y) y) → (ys : List Y) → AllZip R (map f ys) ys
zip_all R f each [] = tt
zip_all R f each (y ∷ ys) = (each y, zip_all R f each ys)

pub zip_itself : {X : Type 0} (R : X → X → Type 0) → ((x : X) → R x x) → (xs : List X) → AllZip R xs xs
zip_itself R each [] = tt
zip_itself R each (x ∷ xs) = (each x, zip_itself R each xs)

-- both of two pairs
abbrev pub Both : {X Y U V : Type 0} → (X → Y → Type 0) → (U → V → Type 0) → X × U → Y × V → Type 0
Both R S p q = R p.0 q.0 × S p.1 q.1

pub zip_both : {X Y U V : Type 0} (R : X → Y → Type 0) (S : U → V → Type 0) (xs : List X) (ys : List Y) (us : List U) (vs : List V) →
    AllZip R xs ys → AllZip S us vs → AllZip (Both R S) (zip xs us) (zip ys vs)
zip_both R S [] [] us vs h k = tt
zip_both R S [] (y ∷ ys) us vs h k = absurd h
zip_both R S (x ∷ xs) [] us vs h k = absurd h
zip_both R S (x ∷ xs) (y ∷ ys) [] [] h k = tt
zip_both R S (x ∷ xs) (y ∷ ys) [] (v ∷ vs) h k = absurd k
zip_both R S (x ∷ xs) (y ∷ ys) (u ∷ us) [] h k = absurd k
zip_both R S (x ∷ xs) (y ∷ ys) (u ∷ us) (v ∷ vs) h k = ((h.0, k.0), zip_both R S xs ys us vs h.1 k.1)

-- what stands at a place of the one list is in step with what stands there in the other
pub zip_at : {X Y : Type 0} (R : X → Y → Type 0) (xs : List X) (ys : List Y) (n : ℕ) (x : X) → AllZip R xs ys → slice_get xs n ≡ Some x →
    (y : Y) × (slice_get ys n ≡ Some y) × R x y
zip_at R [] ys n x h e = cc
zip_at R (z ∷ xs) [] n x h e = absurd h
zip_at R (z ∷ xs) (y ∷ ys) zero x h e = let same : z ≡ x = same_Some z x e in (y, refl, subst (λ w. R w y) same h.0)
zip_at R (z ∷ xs) (y ∷ ys) (suc n) x h e = zip_at R xs ys n x h.1 e

-- where each of the first gives something, each of the second gives what is in step with it
pub zip_given : {X Y T U : Type 0} (R : X → Y → Type 0) (S : T → U → Type 0) (f : X → Option T) (g : Y → Option U) →
    ((x : X) (y : Y) (t : T) → R x y → f x ≡ Some t → (u : U) × (g y ≡ Some u) × S t u) → (xs : List X) (ys : List Y) (ts : List T) → AllZip R xs ys →
    map f xs ≡ map Some ts → (us : List U) × (map g ys ≡ map Some us) × AllZip S ts us
zip_given R S f g each [] [] [] h e = ([], refl, tt)
zip_given R S f g each [] [] (t ∷ ts) h e = cc
zip_given R S f g each [] (y ∷ ys) ts h e = absurd h
zip_given R S f g each (x ∷ xs) [] ts h e = absurd h
zip_given R S f g each (x ∷ xs) (y ∷ ys) [] h e = cc
zip_given R S f g each (x ∷ xs) (y ∷ ys) (t ∷ ts) h e =
    let first : f x ≡ Some t = cc in
    let rest : map f xs ≡ map Some ts = cc in
    let it = each x y t h.0 first in
    let more = zip_given R S f g each xs ys ts h.1 rest in
    (it.0 ∷ more.0, ap₂ (λ z zs. z ∷ zs) it.1 more.1, (it.2, more.2))

pub zip_contains : {X Y : Type 0} (R : X → Y → Type 0) (xs : List X) (ys : List Y) (x : X) → AllZip R xs ys → Contains xs x → (y : Y) × Contains ys y × R x y
zip_contains R [] ys x h there = absurd (Contains-nil x there)
zip_contains R (z ∷ xs) [] x h there = absurd h
zip_contains R (z ∷ xs) (y ∷ ys) x h there =
    elim (Contains-cases z xs x there) as (λ _. (w : _) × Contains (y ∷ ys) w × R x w) [
      | inl same ↦ (y, Contains-head y ys, subst (λ w. R w y) same h.0)
      | inr later ↦ let found = zip_contains R xs ys x h.1 later in (found.0, Contains-later y ys found.0 found.1, found.2)
    ]

-- ---- where values are given

module _ (values : List Value) where
  pub operand_itself : (x : Operand) → OperandAt values x x
  operand_itself x = inl refl

  pub term_itself : (t : Term) → TermAt values t t
  term_itself t = inl refl

  pub atom_itself : (x : Atom) → AtomAt values x x
  atom_itself x = record { op = refl; left = inl refl; right = inl refl }

  pub part_itself : (x : Part) → PartAt values x x
  part_itself x = record {
    from = refl;
    conds = zip_itself (AtomAt values) atom_itself x.conds;
    head = zip_itself (OperandAt values) operand_itself x.head;
  }

  pub query_itself : (x : Query) → QueryAt values x x
  query_itself x = zip_itself (PartAt values) part_itself x.parts

  pub entry_itself : (x : ProblemEntry) → EntryAt values x x
  entry_itself x = record { query = query_itself x.query; row = zip_itself (OperandAt values) operand_itself x.row }

  pub lesson_itself : (x : Lesson) → LessonAt values x x
  lesson_itself (Same a b) = (inl refl, inl refl)
  lesson_itself (Holds x) = (refl, inl refl, inl refl)

  variable_is : (n : ℕ) (o : Option Value) → slice_get values n ≡ o → OperandAt values (variable_at n o) (operands.Var n)
  variable_is n None e = inl refl
  variable_is n (Some v) e = inr (v, n, record { is = e }, refl, refl)

  pub operand_is : (y : Operand) → OperandAt values (operand_at values y) y
  operand_is (operands.Col place column) = inl refl
  operand_is (operands.Val v) = inl refl
  operand_is (operands.Param n) = inl refl
  operand_is (operands.Var n) = variable_is n (slice_get values n) refl

  atom_is : (y : Atom) → AtomAt values (atom_at values y) y
  atom_is y = record { op = refl; left = operand_is y.left; right = operand_is y.right }

  pub row_is : (ys : List Operand) → AllZip (OperandAt values) (map (operand_at values) ys) ys
  row_is ys = zip_all (OperandAt values) (operand_at values) operand_is ys

  part_is : (y : Part) → PartAt values (part_at values y) y
  part_is y = record { from = refl; conds = zip_all (AtomAt values) (atom_at values) atom_is y.conds; head = row_is y.head }

  pub query_is : (y : Query) → QueryAt values (query_at values y) y
  query_is y = zip_all (PartAt values) (part_at values) part_is y.parts

  -- ---- terms

  pub operand_term : (rows : List (List Term)) (x y : Operand) (t : Term) → OperandAt values x y → term_of rows x ≡ Some t →
      (u : Term) × (term_of rows y ≡ Some u) × TermAt values t u
  operand_term rows x y t (inl same) e = (t, ap (term_of rows) same ∙ e, inl refl)
  operand_term rows x y t (inr h) e =
      let given : Some (terms.Val h.0) ≡ Some t = sym (ap (term_of rows) h.3) ∙ e in
      (terms.Var h.1, ap (term_of rows) h.4, inr (h.0, h.1, h.2, sym (same_Some (terms.Val h.0) t given), refl))

  lesson_parts : (op : Op) (o p : Option Term) (l : Lesson) → option_and_then (λ a. option_map (λ b. Holds (record { op = op; left = a; right = b })) p) o ≡ Some l →
      (a b : Term) × (o ≡ Some a) × (p ≡ Some b) × (l ≡ Holds (record { op = op; left = a; right = b }))
  lesson_parts op None p l e = cc
  lesson_parts op (Some a) None l e = cc
  lesson_parts op (Some a) (Some b) l e = (a, b, refl, refl, sym (same_Some (Holds (record { op = op; left = a; right = b })) l e))

  pub atom_lesson : (rows : List (List Term)) (x y : Atom) (l : Lesson) → AtomAt values x y → lesson_of rows x ≡ Some l →
      (m : Lesson) × (lesson_of rows y ≡ Some m) × LessonAt values l m
  atom_lesson rows x y l h e =
      let it = lesson_parts x.op (term_of rows x.left) (term_of rows x.right) l e in
      let left = operand_term rows x.left y.left it.0 h.left it.2 in
      let right = operand_term rows x.right y.right it.1 h.right it.3 in
      let m : Lesson = Holds (record { op = y.op; left = left.0; right = right.0 }) in (
        m,
        ap₂ (λ (o p : Option Term). option_and_then (λ a. option_map (λ b. Holds (record { op = y.op; left = a; right = b })) p) o) left.1 right.1,
        subst (λ w. LessonAt values w m) (sym it.4) (h.op, left.2, right.2),
      )

  same_part : (u : Term) (o : Option Term) (l : Lesson) → option_map (λ t. Same t u) o ≡ Some l → (t : Term) × (o ≡ Some t) × (l ≡ Same t u)
  same_part u None l e = cc
  same_part u (Some t) l e = (t, refl, sym (same_Some (Same t u) l e))

  pub pair_lesson : (rows : List (List Term)) (x y : Operand × Term) (l : Lesson) → Both (OperandAt values) (TermAt values) x y → same_of rows x ≡ Some l →
      (m : Lesson) × (same_of rows y ≡ Some m) × LessonAt values l m
  pair_lesson rows x y l h e =
      let it = same_part x.1 (term_of rows x.0) l e in
      let left = operand_term rows x.0 y.0 it.0 h.0 it.1 in
      (Same left.0 y.1, ap (λ (o : Option Term). option_map (λ t. Same t y.1) o) left.1, subst (λ w. LessonAt values w (Same left.0 y.1)) (sym it.2) (left.2, h.1))

-- ---- what was learned

-- each lesson stands, with variables, in the second list
pub record EachIs (values : List Value) (xs ys : List Lesson) : Type 0 where
  pub of : (l : Lesson) → Contains xs l → (m : Lesson) × Contains ys m × LessonAt values l m

-- each variable that stands for a literal is equal to it
pub record Fixes (values : List Value) (ls : List Lesson) : Type 0 where
  pub of : (n : ℕ) (v : Value) → StandsFor values v n → Contains ls (Holds (record { op = Eq; left = terms.Var n; right = terms.Val v }))

pub each_none : (values : List Value) (ys : List Lesson) → EachIs values [] ys
each_none values ys = record { of = λ l there. absurd (Contains-nil l there) }

pub each_more : (values : List Value) (xs ys ls ms : List Lesson) → EachIs values xs ys → EachIs values ls ms → EachIs values (xs ++ ls) (ys ++ ms)
each_more values xs ys ls ms h k = record {
  of = λ l there.
      elim (Contains-append_cases xs ls l there) as (λ _. (m : Lesson) × Contains (ys ++ ms) m × LessonAt values l m) [
        | inl old ↦ let it = h.of l old in (it.0, Contains-append_left ys ms it.0 it.1, it.2)
        | inr new ↦ let it = k.of l new in (it.0, Contains-append_right ys ms it.0 it.1, it.2)
      ];
}

pub each_zip : (values : List Value) (ls ms : List Lesson) → AllZip (LessonAt values) ls ms → EachIs values ls ms
each_zip values ls ms h = record { of = λ l there. zip_contains (LessonAt values) ls ms l h there }

pub fixes_more : (values : List Value) (ls ms : List Lesson) → Fixes values ls → Fixes values (ls ++ ms)
fixes_more values ls ms h = record { of = λ n v is. Contains-append_left ls ms _ (h.of n v is) }

pub fixes_behind : (values : List Value) (ls ms : List Lesson) → Fixes values ms → Fixes values (ls ++ ms)
fixes_behind values ls ms h = record { of = λ n v is. Contains-append_right ls ms _ (h.of n v is) }

module _ (values : List Value) (k l : Known) (fixes : Fixes values l.learned) where
  -- a literal and a variable that stands for it are of one class
  pub term_class : (t u : Term) → TermAt values t u → OneClass l t u
  term_class t u (inl same) = subst (OneClass l t) (sym same) OneClass.itself
  term_class t u (inr h) =
      let one : OneClass l (terms.Var h.1) (terms.Val h.0) = OneClass.equated (Equated.equal (fixes.of h.1 h.0 h.2)) in
      subst (λ x. OneClass l x u) (sym h.3) (subst (OneClass l (terms.Val h.0)) (sym h.4) (OneClass.turned one))

  same_learned : (a b : Term) (m : Lesson) → LessonAt values (Same a b) m → Contains l.learned m → OneClass l a b
  same_learned a b (Same c d) h there =
      OneClass.joined (term_class a c h.0) (OneClass.joined (OneClass.equated (Equated.same there)) (OneClass.turned (term_class b d h.1)))
  same_learned a b (Holds y) h there = absurd h

  atom_learned : (op : Op) (a b : Term) (m : Lesson) → LessonAt values (Holds (record { op = op; left = a; right = b })) m → Contains l.learned m → LearnedOf l op a b
  atom_learned op a b (Same c d) h there = absurd h
  atom_learned op a b (Holds y) h there = record {
    left = y.left;
    right = y.right;
    left_in = term_class a y.left h.1;
    right_in = term_class b y.right h.2;
    learned = subst (λ o. Contains l.learned (Holds (record { op = o; left = y.left; right = y.right }))) h.0 there;
  }

  pub lessons_follow : l.unknowns ≡ k.unknowns → EachIs values k.learned l.learned → Follows k l
  lessons_follow unknowns each = record {
    unknowns = unknowns;
    same = λ a b there. let it = each.of (Same a b) there in same_learned a b it.0 it.2 it.1;
    learned = λ op a b there.
        let it = each.of (Holds (record { op = op; left = a; right = b })) there in atom_learned op a b it.0 it.2 it.1;
  }
