-- Where a part gives a row in a side's database, a fit of a branch goes on to the case of the part.
use Rattle.std.proofs.Common.{◌≡◌, ℕ, List, [], ◌∷◌, ◌++◌, length, map, sym, ◌∙◌, subst}
use Rattle.std.proofs.lemmas.List.Elements.{All-append, All-cons, All-head, All-nil, All-tail}
use Rattle.std.proofs.lemmas.Option.{same_Some}
use Rattle.std.specs.List.{All, range_with_len, zip}
use Rattle.std.specs.Option.{option_map}
use Rattle.std.specs.Prelude.{Option, Some, None, option_and_then}
use Rattle.ba_model.specs.Meaning.{Compares, Gives, value_of, Holds as AtomHolds}
use Rattle.ba_model.specs.declared.query.Atom.{Atom}
use Rattle.ba_model.specs.declared.query.Op.{Op}
use Rattle.ba_model.specs.declared.query.Operand.{Operand}
use Rattle.ba_model.specs.declared.query.Part.{Part}
use Rattle.ba_model.specs.declared.schema.Schema.{Schema}
use Rattle.ba_model.specs.declared.value.RowSet.{RowSet}
use Rattle.ba_model.specs.declared.value.Value.{Value}
use Rattle.ba_facts.specs.Fits.{Fits, FitsAt, Instance, LessonHolds, value_of_term}
use Rattle.ba_facts.specs.Matches.{term_of}
use Rattle.ba_facts.specs.declared.branch.Branch.{Branch}
use Rattle.ba_facts.specs.declared.term.Lesson.{Lesson}
use Rattle.ba_facts.specs.declared.term.Lesson.TheVariants.{Same, Holds}
use Rattle.ba_facts.specs.declared.term.Side.{Side}
use Rattle.ba_facts.specs.declared.term.Term.{Term}
use Rattle.ba_kernel.proofs.CaseFactLemmas.{NewFactsFit, lessons_fit, new_facts_fit}
use Rattle.ba_kernel.proofs.OperandLemmas.{RowsAre, TermsAre, operand_value, row_kept}
use Rattle.ba_kernel.specs.Effects.{IsCase, lesson_of, rows_at, same_of, with_facts}
use Rattle.ba_kernel.specs.Problems.{atom_at, operand_at, part_at}
use Rattle.ba_kernel.specs.Soundness.{CaseKeepsFit}

-- ---- the lessons of a part are true

-- operands have these values in the rows
abbrev pub OperandsAre : Instance → List (List Value) → List Operand → List Value → Type 0
OperandsAre i rows operands given = map (value_of i.context rows) (map (operand_at i.vars) operands) ≡ map Some given

module _ (i : Instance) (values : List Value) where
  -- a comparison of two terms by their values
  compared_lesson : (op : Op) (l r : Option Term) (left right : Value) (lesson : Lesson) →
      option_and_then (value_of_term i values) l ≡ Some left → option_and_then (value_of_term i values) r ≡ Some right → Compares op left right →
      option_and_then (λ a. option_map (λ b. Holds (record { op = op; left = a; right = b })) r) l ≡ Some lesson → LessonHolds i values lesson
  compared_lesson op None r left right lesson left_is right_is compared e = cc
  compared_lesson op (Some a) None left right lesson left_is right_is compared e = cc
  compared_lesson op (Some a) (Some b) left right lesson left_is right_is compared e =
      subst (LessonHolds i values) (same_Some (Holds (record { op = op; left = a; right = b })) lesson e)
      (record { left = left; right = right; left_is = left_is; right_is = right_is; compared = compared })

  -- two terms of one value
  same_lesson : (t : Option Term) (u : Term) (value : Value) (lesson : Lesson) →
      option_and_then (value_of_term i values) t ≡ Some value → value_of_term i values u ≡ Some value →
      option_map (λ a. Same a u) t ≡ Some lesson → LessonHolds i values lesson
  same_lesson None u value lesson left_is right_is e = cc
  same_lesson (Some a) u value lesson left_is right_is e =
      subst (LessonHolds i values) (same_Some (Same a u) lesson e) (record { value = value; left_is = left_is; right_is = right_is })

  module _ (terms : List (List Term)) (rows : List (List Value)) (are : RowsAre i values terms rows) where
    lesson_holds : (atom : Atom) (lesson : Lesson) → AtomHolds i.context rows (atom_at i.vars atom) →
        lesson_of terms atom ≡ Some lesson → LessonHolds i values lesson
    lesson_holds atom lesson h e =
        compared_lesson atom.op (term_of terms atom.left) (term_of terms atom.right) h.left h.right lesson
        (sym (operand_value i values terms rows are atom.left) ∙ h.left_is) (sym (operand_value i values terms rows are atom.right) ∙ h.right_is) h.compared e

    -- atoms that hold of the rows are true of the terms
    pub lessons_hold : (conds : List Atom) (lessons : List Lesson) → All (AtomHolds i.context rows) (map (atom_at i.vars) conds) →
        map (lesson_of terms) conds ≡ map Some lessons → All (LessonHolds i values) lessons
    lessons_hold [] [] h e = All-nil (LessonHolds i values)
    lessons_hold [] (lesson ∷ lessons) h e = cc
    lessons_hold (atom ∷ conds) [] h e = cc
    lessons_hold (atom ∷ conds) (lesson ∷ lessons) h e =
        let first : lesson_of terms atom ≡ Some lesson = cc in
        let later : map (lesson_of terms) conds ≡ map Some lessons = cc in
        All-cons (LessonHolds i values) lesson lessons
        (lesson_holds atom lesson (All-head (AtomHolds i.context rows) (atom_at i.vars atom) (map (atom_at i.vars) conds) h) first)
        (lessons_hold conds lessons (All-tail (AtomHolds i.context rows) (atom_at i.vars atom) (map (atom_at i.vars) conds) h) later)

    -- the head has the values of the row
    heads_hold : (head : List Operand) (row : List Term) (given : List Value) (lessons : List Lesson) → OperandsAre i rows head given →
        TermsAre i values row given → map (same_of terms) (zip head row) ≡ map Some lessons → All (LessonHolds i values) lessons
    heads_hold [] row given [] h k e = All-nil (LessonHolds i values)
    heads_hold [] row given (lesson ∷ lessons) h k e = cc
    heads_hold (operand ∷ head) [] given [] h k e = All-nil (LessonHolds i values)
    heads_hold (operand ∷ head) [] given (lesson ∷ lessons) h k e = cc
    heads_hold (operand ∷ head) (u ∷ row) [] lessons h k e = cc
    heads_hold (operand ∷ head) (u ∷ row) (value ∷ given) [] h k e = cc
    heads_hold (operand ∷ head) (u ∷ row) (value ∷ given) (lesson ∷ lessons) h k e =
        let left : value_of i.context rows (operand_at i.vars operand) ≡ Some value = cc in
        let right : value_of_term i values u ≡ Some value = cc in
        let first : same_of terms (operand, u) ≡ Some lesson = cc in
        let left_rest : OperandsAre i rows head given = cc in
        let right_rest : TermsAre i values row given = cc in
        let later : map (same_of terms) (zip head row) ≡ map Some lessons = cc in
        All-cons (LessonHolds i values) lesson lessons
        (same_lesson (term_of terms operand) u value lesson (sym (operand_value i values terms rows are operand) ∙ left) right first)
        (heads_hold head row given lessons left_rest right_rest later)

-- ---- the case

module _ (s : Schema) (i : Instance) (d e : RowSet) (r values : List Value) (old new : Branch) (side : Side) (round : ℕ)
    (row : List Term) (part : Part) (given : List Value) (case : IsCase s old side round row part new) where
  abbrev numbers : List ℕ
  numbers = range_with_len (length old.facts) (length part.from)

  abbrev with_rows : Branch
  with_rows = with_facts s side round old part.from

  case_fits_by : (rows : List (List Value)) → TermsAre i values row given → Gives i.context rows (part_at i.vars part) given →
      NewFactsFit s i d e r values with_rows numbers rows → Fits s new i d e r
  case_fits_by rows row_is gives new_fit =
      let terms = rows_at with_rows numbers in
      let are = new_fit.rows_are in
      let row_still = row_kept i values new_fit.values new_fit.kept row given row_is in
      let atoms_hold = lessons_hold i new_fit.values terms rows are part.conds case.atoms gives.conds case.atoms_are in
      let same_hold = heads_hold i new_fit.values terms rows are part.head row given case.heads gives.head row_still case.heads_are in
      let all_hold = All-append (LessonHolds i new_fit.values) case.atoms case.heads atoms_hold same_hold in
      let fit = lessons_fit s i d e r new_fit.values with_rows (case.atoms ++ case.heads) new_fit.fits all_hold in
      (new_fit.values, subst (λ b. FitsAt s b i d e r new_fit.values) (sym case.new_is) fit)

-- where the part gives a row in the side's database, a fit goes on to the case of the part in which it gives the row's terms
pub case_keeps_fit : CaseKeepsFit
case_keeps_fit p i old new side round row part d e r values given instance fit row_is (rows, chosen, gives) case =
    let s = p.policy.schema in
    case_fits_by s i d e r values old new side round row part given case rows row_is gives
    (new_facts_fit s side round i d e r part.from rows old values fit chosen)
