-- What breaks the strong compliance of an instance fits a branch of the start.
use Rattle.std.proofs.Common.{◌≡◌, ℕ, suc, List, [], ◌∷◌, ◌++◌, length, map, refl, ap, ap₂, sym, ◌∙◌, subst, inl, inr}
use Rattle.std.proofs.lemmas.List.Elements.{All-append, All-cons, All-head, All-nil, All-tail}
use Rattle.std.proofs.lemmas.Option.{same_Some, slice_get-map}
use Rattle.std.specs.List.{All, AllZip, Contains, range_with_len}
use Rattle.std.specs.Option.{option_map}
use Rattle.std.specs.Prelude.{Option, Some, None, slice_get, option_and_then}
use Rattle.ba_model.proofs.ElementLemmas.{Contains-cases, Contains-nil}
use Rattle.ba_model.specs.Meaning.{Gives, InPart, value_of}
use Rattle.ba_model.specs.declared.query.Atom.{Atom}
use Rattle.ba_model.specs.declared.query.Op.{Op}
use Rattle.ba_model.specs.declared.query.Operand.{Operand}
use Rattle.ba_model.specs.declared.query.Part.{Part}
use Rattle.ba_model.specs.declared.schema.Schema.{Schema}
use Rattle.ba_model.specs.declared.value.RowSet.{RowSet}
use Rattle.ba_model.specs.declared.value.Value.{Value}
use Rattle.ba_model.specs.Conform.{Conforms}
use Rattle.ba_facts.specs.Fits.{FactHolds, Fits, FitsAt, Instance, LessonHolds, value_of_term}
use Rattle.ba_facts.specs.Matches.{Under, term_of}
use Rattle.ba_facts.specs.declared.branch.Branch.{Branch}
use Rattle.ba_facts.specs.declared.term.Lesson.{Lesson}
use Rattle.ba_facts.specs.declared.term.Lesson.TheVariants.{Holds}
use Rattle.ba_facts.specs.declared.term.Side.TheVariants.{One}
use Rattle.ba_facts.specs.declared.term.Term.{Term}
use Rattle.ba_kernel.proofs.CaseFactLemmas.{NewFactsFit, lessons_fit, new_facts_fit}
use Rattle.ba_kernel.proofs.CaseLemmas.{OperandsAre, lessons_hold}
use Rattle.ba_kernel.proofs.OperandLemmas.{IsKept, RowsAre, TermsAre, lesson_kept, operand_value}
use Rattle.ba_kernel.specs.Courses.{IsStartOf, nothing_known}
use Rattle.ba_kernel.specs.Effects.{lesson_of, rows_at, with_facts, with_lessons}
use Rattle.ba_kernel.specs.Problems.{HoldsOf, IsInstance, operand_at, part_at}
use Rattle.ba_kernel.specs.Soundness.{StartFits}
use Rattle.ba_kernel.specs.declared.problem.Problem.{Problem}

-- ---- the goal row

-- the terms of a head have the values that it gives
pub head_values : (i : Instance) (values : List Value) (terms : List (List Term)) (rows : List (List Value)) → RowsAre i values terms rows →
    (head : List Operand) (goal : List Term) (r : List Value) → OperandsAre i rows head r → map (term_of terms) head ≡ map Some goal → TermsAre i values goal r
head_values i values terms rows are [] [] [] h e = refl
head_values i values terms rows are [] [] (v ∷ r) h e = cc
head_values i values terms rows are [] (t ∷ goal) r h e = cc
head_values i values terms rows are (operand ∷ head) [] r h e = cc
head_values i values terms rows are (operand ∷ head) (t ∷ goal) [] h e = cc
head_values i values terms rows are (operand ∷ head) (t ∷ goal) (v ∷ r) h e =
    let value_is : value_of i.context rows (operand_at i.vars operand) ≡ Some v = cc in
    let term_is : term_of terms operand ≡ Some t = cc in
    let values_rest : OperandsAre i rows head r = cc in
    let terms_rest : map (term_of terms) head ≡ map Some goal = cc in
    let first = sym (ap (option_and_then (value_of_term i values)) term_is) ∙ (sym (operand_value i values terms rows are operand) ∙ value_is) in
    ap₂ (λ z zs. z ∷ zs) first (head_values i values terms rows are head goal r values_rest terms_rest)

-- ---- what is assumed

abbrev holds_of : Op → Term → Term → Lesson
holds_of op a b = Holds (record { op = op; left = a; right = b })

assumed_lesson : (op : Op) (l r : Option Term) (a b : Term) (lesson : Lesson) → l ≡ Some a → r ≡ Some b →
    option_and_then (λ x. option_map (holds_of op x) r) l ≡ Some lesson → holds_of op a b ≡ lesson
assumed_lesson op None r a b lesson left_is right_is e = cc
assumed_lesson op (Some x) None a b lesson left_is right_is e = cc
assumed_lesson op (Some x) (Some y) a b lesson left_is right_is e =
    ap₂ (holds_of op) (sym (same_Some x a left_is)) (sym (same_Some y b right_is)) ∙ same_Some (holds_of op x y) lesson e

module _ (i : Instance) (values : List Value) (kept : IsKept i [] values) where
  assumed_holds : (atom : Atom) (lesson : Lesson) → Under (HoldsOf i) [] atom → lesson_of [] atom ≡ Some lesson → LessonHolds i values lesson
  assumed_holds atom lesson h e =
      lesson_kept i [] values kept lesson
      (subst (LessonHolds i []) (assumed_lesson atom.op (term_of [] atom.left) (term_of [] atom.right) h.left h.right lesson h.left_is h.right_is e) h.holds)

  all_assumed_hold : (atoms : List Atom) (lessons : List Lesson) → All (Under (HoldsOf i) []) atoms → map (lesson_of []) atoms ≡ map Some lessons →
      All (LessonHolds i values) lessons
  all_assumed_hold [] [] h e = All-nil (LessonHolds i values)
  all_assumed_hold [] (lesson ∷ lessons) h e = cc
  all_assumed_hold (atom ∷ atoms) [] h e = cc
  all_assumed_hold (atom ∷ atoms) (lesson ∷ lessons) h e =
      let first : lesson_of [] atom ≡ Some lesson = cc in
      let later : map (lesson_of []) atoms ≡ map Some lessons = cc in
      All-cons (LessonHolds i values) lesson lessons (assumed_holds atom lesson (All-head (Under (HoldsOf i) []) atom atoms h) first)
      (all_assumed_hold atoms lessons (All-tail (Under (HoldsOf i) []) atom atoms h) later)

-- ---- a branch of the start

-- the goal row of a fit may be another
goal_fits : (s : Schema) (i : Instance) (d e : RowSet) (b : Branch) (goal : List Term) (old r values : List Value) → FitsAt s b i d e old values →
    TermsAre i values goal r → FitsAt s (record b { goal = goal }) i d e r values
goal_fits s i d e b goal old r values fit is =
    record { one = fit.one; two = fit.two; params = fit.params; vars = fit.vars; sorts = fit.sorts; facts = fit.facts; learned = fit.learned; goal = is }

module _ (p : Problem) (i : Instance) (d e : RowSet) (instance : IsInstance p i) (one : Conforms p.policy.schema d) (two : Conforms p.policy.schema e) where
  abbrev s : Schema
  s = p.policy.schema

  nothing_fits : FitsAt s (nothing_known p) i d e [] []
  nothing_fits =
      record {
        one = one;
        two = two;
        params = instance.context;
        vars = instance.vars;
        sorts = tt;
        facts = All-nil (FactHolds i [] d e);
        learned = All-nil (LessonHolds i []);
        goal = refl;
      }

  module _ (r : List Value) where
    module _ (part : Part) (new : Branch) (start : IsStartOf p part new) where
      abbrev numbers : List ℕ
      numbers = range_with_len 0 (length part.from)

      abbrev with_rows : Branch
      with_rows = with_facts s One 0 (nothing_known p) part.from

      start_fits_by : (rows : List (List Value)) → Gives i.context rows (part_at i.vars part) r →
          NewFactsFit s i d e [] [] with_rows numbers rows → Fits s new i d e r
      start_fits_by rows gives new_fit =
          let terms = rows_at with_rows numbers in
          let are = new_fit.rows_are in
          let atoms_hold = lessons_hold i new_fit.values terms rows are part.conds start.atoms gives.conds start.atoms_are in
          let assumed_hold = all_assumed_hold i new_fit.values new_fit.kept p.assumed start.assumed instance.assumed start.assumed_are in
          let all_hold = All-append (LessonHolds i new_fit.values) start.atoms start.assumed atoms_hold assumed_hold in
          let learned = lessons_fit s i d e [] new_fit.values with_rows (start.atoms ++ start.assumed) new_fit.fits all_hold in
          let goal_is = head_values i new_fit.values terms rows are part.head start.goal r gives.head start.goal_is in
          let fit = goal_fits s i d e (with_lessons with_rows (start.atoms ++ start.assumed)) start.goal [] r new_fit.values learned goal_is in
          (new_fit.values, subst (λ b. FitsAt s b i d e r new_fit.values) (sym start.new_is) fit)

      -- where the part of the goal gives the row, the branch fits
      part_start_fits : InPart i.context d (part_at i.vars part) r → Fits s new i d e r
      part_start_fits (rows, chosen, gives) = start_fits_by rows gives (new_facts_fit s One 0 i d e [] part.from rows (nothing_known p) [] nothing_fits chosen)

    some_start_fits : (parts : List Part) (branches : List Branch) (part : Part) → AllZip (IsStartOf p) parts branches →
        Contains (map (part_at i.vars) parts) part → InPart i.context d part r → (n : ℕ) × (b : Branch) × (slice_get branches n ≡ Some b) × Fits s b i d e r
    some_start_fits [] branches part starts there given = absurd (Contains-nil part there)
    some_start_fits (first ∷ parts) [] part starts there given = absurd starts
    some_start_fits (first ∷ parts) (b ∷ branches) part starts there given =
        elim (Contains-cases (part_at i.vars first) (map (part_at i.vars) parts) part there) [
          | inl same ↦ (0, b, refl, part_start_fits first b starts.0 (subst (λ q. InPart i.context d q r) (sym same) given))
          | inr later ↦ let found = some_start_fits parts branches part starts.1 later given in (suc found.0, found.1, found.2, found.3)
        ]

-- what breaks compliance fits a branch of the start
pub start_fits : StartFits
start_fits p i trace d e r slots fits instance breaks start =
    let (part, there, given) = breaks.asked in
    let found = some_start_fits p i d e instance breaks.one breaks.two r p.goal.parts start.branches part start.starts there given in
    record {
      number = found.0;
      branch = found.1;
      is_open =
          subst (λ ss. slice_get ss found.0 ≡ Some (Some found.1)) (sym start.slots_are)
          (slice_get-map Some start.branches found.0 ∙ ap (option_map Some) found.2);
      fits = found.3;
    }
