-- A case of a row that some rows of terms give already grows quietly.
use Rattle.std.proofs.Common.{◌≡◌, ◌∙◌, ℕ, zero, suc, ◌+◌, List, [], ◌∷◌, ◌++◌, length, map, refl, ap, sym, subst, arith}
use Rattle.std.proofs.lemmas.List.Elements.{All-append, All-cons, All-head, All-nil, All-tail}
use Rattle.std.proofs.lemmas.Option.{same_Some}
use Rattle.std.specs.List.{All, AllZip, range_with_len, zip}
use Rattle.std.specs.Option.{option_map}
use Rattle.std.specs.Prelude.{Option, Some, None, false, option_and_then, slice_get, unwrap_or}
use Rattle.ba_model.specs.SchemaFaults.{columns_of}
use Rattle.ba_model.specs.declared.query.Atom.{Atom}
use Rattle.ba_model.specs.declared.query.Op.{Op}
use Rattle.ba_model.specs.declared.query.Operand.{Operand}
use Rattle.ba_model.specs.declared.query.Part.{Part}
use Rattle.ba_model.specs.declared.schema.Column.{Column}
use Rattle.ba_model.specs.declared.schema.Schema.{Schema}
use Rattle.ba_facts.specs.Known.{Known, OneClass, ShownNotNull}
use Rattle.ba_facts.specs.Knowing.{IsThere, sort_of}
use Rattle.ba_facts.specs.Matches.{Under, term_of}
use Rattle.ba_facts.specs.declared.branch.Branch.{Branch}
use Rattle.ba_facts.specs.declared.term.Lesson.{Lesson}
use Rattle.ba_facts.specs.declared.term.Lesson.TheVariants.{Same, Holds}
use Rattle.ba_facts.specs.declared.term.Side.{Side}
use Rattle.ba_facts.specs.declared.term.Sort.{Sort}
use Rattle.ba_facts.specs.declared.term.Term.{Term}
use Rattle.ba_facts.specs.declared.term.Term.TheVariants.{Unknown, Param}
use Rattle.ba_kernel.proofs.CaseFactLemmas.{unknowns_from, zip_append, zip_length}
use Rattle.ba_kernel.specs.Effects.{IsCase, lesson_of, rows_at, same_of, with_facts, with_lessons}
use Rattle.ba_kernel.specs.Tidy.{AreAsWide}
use Rattle.ba_instant.proofs.MirrorLemmas.{facts_added, goal_same, in_turn, joined_rows, learned_same, operand_in_turn, own_and, own_length, own_stays, params_same, rows_in_turn, sorts_for, unknowns_added, vars_same}
use Rattle.ba_instant.specs.QuietSteps.{GivenCaseIsQuiet, GivesRow, IsFilled, IsOneWith, IsRowFor}
use Rattle.ba_instant.specs.Windows.{GrowsQuietly, IsToldBy, IsToldOf}

-- ---- lists in step

zip_at : {X Y : Type 0} (R : X → Y → Type 0) (xs : List X) (ys : List Y) (n : ℕ) (x : X) → AllZip R xs ys → slice_get xs n ≡ Some x →
    (y : Y) × (slice_get ys n ≡ Some y) × R x y
zip_at R [] [] n x h e = cc
zip_at R [] (y ∷ ys) n x h e = absurd h
zip_at R (w ∷ xs) [] n x h e = absurd h
zip_at R (w ∷ xs) (y ∷ ys) zero x h e = (y, refl, subst (λ z. R z y) (same_Some w x e) h.0)
zip_at R (w ∷ xs) (y ∷ ys) (suc n) x h e = zip_at R xs ys n x h.1 e

get_after : {X : Type 0} (xs ys : List X) (n : ℕ) (y : X) → slice_get ys n ≡ Some y → slice_get (xs ++ ys) (length xs + n) ≡ Some y
get_after [] ys n y e = subst (λ m. slice_get ys m ≡ Some y) (let same : n ≡ 0 + n = omega arith in same) e
get_after (x ∷ xs) ys n y e =
    subst (λ m. slice_get (x ∷ (xs ++ ys)) m ≡ Some y) (let same : suc (length xs + n) ≡ suc (length xs) + n = omega arith in same) (get_after xs ys n y e)

-- ---- facts whose terms such rows stand for

module _ (s : Schema) (b : Branch) (side : Side) (round : ℕ) (from : List ℕ) (rows : List (List Term)) (rows_for : AllZip (IsRowFor s b.known) from rows) where
  abbrev k : Known
  k = b.known

  abbrev mid : Branch
  mid = with_facts s side round b from

  abbrev pub new_rows : List (List Term)
  new_rows = rows_at mid (range_with_len (length b.facts) (length from))

  abbrev pub stand_in : Term → Term
  stand_in = in_turn (own_and (length b.known.unknowns) (joined_rows rows))

  are_wide : (from : List ℕ) (rows : List (List Term)) → AllZip (IsRowFor s k) from rows → AreAsWide s from rows
  are_wide [] [] h = tt
  are_wide [] (row ∷ rows) h = absurd h
  are_wide (table ∷ from) [] h = absurd h
  are_wide (table ∷ from) (row ∷ rows) h = (sym (zip_length (IsFilled k) (columns_of s.tables table) row h.0), are_wide from rows h.1)

  pub mirrored : map (map stand_in) new_rows ≡ rows
  mirrored = rows_in_turn s side round from rows b (unknowns_from 0 (length k.unknowns)) (own_length (length k.unknowns)) (are_wide from rows rows_for)

  pub operand_is : (x : Operand) (t : Term) → term_of new_rows x ≡ Some t → term_of rows x ≡ Some (stand_in t)
  operand_is x t e =
      subst (λ rs. term_of rs x ≡ Some (stand_in t)) mirrored (operand_in_turn (own_and (length k.unknowns) (joined_rows rows)) new_rows x t e)

  -- ---- what isn't NULL

  abbrev IsSortFilled : Sort → Term → Type 0
  IsSortFilled sort t = sort.nullable ≡ false → ShownNotNull k t

  sorts_filled : (columns : List Column) (ts : List Term) → AllZip (IsFilled k) columns ts → AllZip IsSortFilled (map sort_of columns) ts
  sorts_filled [] [] h = tt
  sorts_filled [] (t ∷ ts) h = absurd h
  sorts_filled (column ∷ columns) [] h = absurd h
  sorts_filled (column ∷ columns) (t ∷ ts) h = (h.0, sorts_filled columns ts h.1)

  all_filled : (from : List ℕ) (rows : List (List Term)) → AllZip (IsRowFor s k) from rows → AllZip IsSortFilled (sorts_for s side round from) (joined_rows rows)
  all_filled [] [] h = tt
  all_filled [] (row ∷ rows) h = absurd h
  all_filled (table ∷ from) [] h = absurd h
  all_filled (table ∷ from) (row ∷ rows) h =
      let columns = columns_of s.tables table in
      zip_append IsSortFilled (map sort_of columns) (sorts_for s side round from) row (joined_rows rows) (sorts_filled columns row h.0) (all_filled from rows h.1)

  not_null : (n : ℕ) (sort : Sort) → slice_get (sorts_for s side round from) n ≡ Some sort → sort.nullable ≡ false → ShownNotNull k (stand_in (Unknown (length k.unknowns + n)))
  not_null n sort e is =
      let at = zip_at IsSortFilled (sorts_for s side round from) (joined_rows rows) n sort (all_filled from rows rows_for) e in
      let there = get_after (unknowns_from 0 (length k.unknowns)) (joined_rows rows) n at.0 at.1 in
      let counted = subst (λ m. slice_get (own_and (length k.unknowns) (joined_rows rows)) (m + n) ≡ Some at.0) (own_length (length k.unknowns)) there in
      subst (ShownNotNull k) (sym (ap (λ o. unwrap_or o (Param 0)) counted)) (at.2 is)

  -- ---- the growth

  pub grows_by : (lessons : List Lesson) → All (IsToldBy k stand_in) lessons → GrowsQuietly round b (with_lessons mid lessons)
  grows_by lessons told =
      let more = facts_added s side round from b in
      record {
        growth = record {
          unknowns = sorts_for s side round from;
          lessons = lessons;
          facts = more.facts;
          unknowns_are = unknowns_added s side round from b;
          lessons_are = ap (λ ls. ls ++ lessons) (learned_same s side round from b);
          facts_are = more.are;
          goal = goal_same s side round from b;
          params = params_same s side round from b;
          vars = vars_same s side round from b;
          stands = stand_in;
          itself = λ t there. own_stays k (joined_rows rows) t there;
          told = told;
          not_null = not_null;
        };
        late = more.late;
      }

-- ---- the case of a part

module _ (s : Schema) (b : Branch) (side : Side) (round : ℕ) (part : Part) (rows : List (List Term)) (row : List Term) (gives : GivesRow s b part rows row) where
  abbrev l : Known
  l = b.known

  abbrev news : List (List Term)
  news = new_rows s b side round part.from rows gives.rows_for

  abbrev by : Term → Term
  by = stand_in s b side round part.from rows gives.rows_for

  is_as : (x : Operand) (t u : Term) → term_of rows x ≡ Some u → term_of news x ≡ Some t → u ≡ by t
  is_as x t u is e = same_Some u (by t) (sym is ∙ operand_is s b side round part.from rows gives.rows_for x t e)

  holds_told : (op : Op) (u v : Term) (o q : Option Term) (lesson : Lesson) → IsToldOf l op u v → ((t : Term) → o ≡ Some t → u ≡ by t) → ((t : Term) → q ≡ Some t → v ≡ by t) →
      option_and_then (λ a. option_map (λ c. Holds (record { op = op; left = a; right = c })) q) o ≡ Some lesson → IsToldBy l by lesson
  holds_told op u v None q lesson h left right e = cc
  holds_told op u v (Some a) None lesson h left right e = cc
  holds_told op u v (Some a) (Some c) lesson h left right e =
      subst (IsToldBy l by) (same_Some (Holds (record { op = op; left = a; right = c })) lesson e)
      (subst (λ t. IsToldOf l op t (by c)) (left a refl) (subst (IsToldOf l op u) (right c refl) h))

  atoms_told : (conds : List Atom) (lessons : List Lesson) → All (Under (IsToldOf l) rows) conds → map (lesson_of news) conds ≡ map Some lessons → All (IsToldBy l by) lessons
  atoms_told [] [] h e = All-nil (IsToldBy l by)
  atoms_told [] (lesson ∷ lessons) h e = cc
  atoms_told (atom ∷ conds) [] h e = cc
  atoms_told (atom ∷ conds) (lesson ∷ lessons) h e =
      let here = All-head (Under (IsToldOf l) rows) atom conds h in
      let first : lesson_of news atom ≡ Some lesson = cc in
      let rest : map (lesson_of news) conds ≡ map Some lessons = cc in
      All-cons (IsToldBy l by) lesson lessons
      (holds_told atom.op here.left here.right (term_of news atom.left) (term_of news atom.right) lesson here.holds
      (λ t is. is_as atom.left t here.left here.left_is is) (λ t is. is_as atom.right t here.right here.right_is is) first)
      (atoms_told conds lessons (All-tail (Under (IsToldOf l) rows) atom conds h) rest)

  same_told : (o : Option Term) (t : Term) (lesson : Lesson) → ((a : Term) → o ≡ Some a → OneClass l (by a) t) → IsThere l t → option_map (λ a. Same a t) o ≡ Some lesson →
      IsToldBy l by lesson
  same_told None t lesson h there e = cc
  same_told (Some a) t lesson h there e =
      subst (IsToldBy l by) (same_Some (Same a t) lesson e) (subst (OneClass l (by a)) (sym (own_stays l (joined_rows rows) t there)) (h a refl))

  heads_told : (head : List Operand) (ts : List Term) (lessons : List Lesson) → AllZip (IsOneWith l) (map (term_of rows) head) ts → All (IsThere l) ts →
      map (same_of news) (zip head ts) ≡ map Some lessons → All (IsToldBy l by) lessons
  heads_told [] [] [] h there e = All-nil (IsToldBy l by)
  heads_told [] [] (lesson ∷ lessons) h there e = cc
  heads_told [] (t ∷ ts) lessons h there e = absurd h
  heads_told (x ∷ head) [] lessons h there e = absurd h
  heads_told (x ∷ head) (t ∷ ts) [] h there e = cc
  heads_told (x ∷ head) (t ∷ ts) (lesson ∷ lessons) h there e =
      let one = h.0 in
      let first : same_of news (x, t) ≡ Some lesson = cc in
      let rest : map (same_of news) (zip head ts) ≡ map Some lessons = cc in
      All-cons (IsToldBy l by) lesson lessons
      (same_told (term_of news x) t lesson (λ a is. subst (λ u. OneClass l u t) (is_as x a one.term one.is is) one.class) (All-head (IsThere l) t ts there) first)
      (heads_told head ts lessons h.1 (All-tail (IsThere l) t ts there) rest)

  pub case_grows : (c : Branch) → All (IsThere b.known) row → IsCase s b side round row part c → GrowsQuietly round b c
  case_grows c there case =
      subst (GrowsQuietly round b) (sym case.new_is)
      (grows_by s b side round part.from rows gives.rows_for (case.atoms ++ case.heads)
      (All-append (IsToldBy l by) case.atoms case.heads (atoms_told part.conds case.atoms gives.told case.atoms_are)
      (heads_told part.head row case.heads gives.head there case.heads_are)))

pub given_case_is_quiet : GivenCaseIsQuiet
given_case_is_quiet s b c side round part rows row there gives case = case_grows s b side round part rows row gives c there case
