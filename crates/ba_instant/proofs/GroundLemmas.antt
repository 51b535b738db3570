-- Lessons of terms that are there, and branches to which they are added.
use Rattle.std.proofs.Common.{◌≡◌, ℕ, ◌≤◌, List, [], ◌∷◌, ◌++◌, length, map, refl, sym, subst, arith}
use Rattle.std.proofs.lemmas.List.Elements.{All-append, All-cons, All-head, All-nil, All-tail, All-weaker}
use Rattle.std.proofs.lemmas.Option.{same_Some}
use Rattle.std.specs.List.{All, AllZip, range_with_len, zip}
use Rattle.std.specs.Option.{option_map}
use Rattle.std.specs.Prelude.{Option, Some, None, option_and_then, slice_get}
use Rattle.ba_model.specs.declared.query.Atom.{Atom}
use Rattle.ba_model.specs.declared.query.Op.{Op}
use Rattle.ba_model.specs.declared.query.Operand.{Operand}
use Rattle.ba_model.specs.declared.query.Part.{Part}
use Rattle.ba_model.specs.declared.schema.Schema.{Schema}
use Rattle.ba_facts.specs.Known.{Known}
use Rattle.ba_facts.specs.Knowing.{IsThere, LessonIsThere}
use Rattle.ba_facts.specs.Matches.{term_of}
use Rattle.ba_facts.specs.declared.branch.Branch.{Branch}
use Rattle.ba_facts.specs.declared.term.Lesson.{Lesson}
use Rattle.ba_facts.specs.declared.term.Lesson.TheVariants.{Same, Holds}
use Rattle.ba_facts.specs.declared.term.Side.{Side}
use Rattle.ba_facts.specs.declared.term.Term.{Term}
use Rattle.ba_kernel.proofs.StepFits.{All-at}
use Rattle.ba_kernel.proofs.TidyLemmas.{facts_there, row_there_more, term_there, there_more, unknowns_kept}
use Rattle.ba_kernel.specs.Effects.{IsCase, lesson_of, rows_at, same_at, same_of, with_facts, with_lessons}
use Rattle.ba_kernel.specs.Tidy.{FactsAreThere, TermsAreThere}
use Rattle.ba_instant.proofs.MirrorLemmas.{learned_same}

-- ---- lessons of terms that are there

abbrev pub LessonsAreThere : Branch → Type 0
LessonsAreThere b = All (LessonIsThere b.known) b.known.learned

module _ (k : Known) where
  same_there : (o q : Option Term) (lesson : Lesson) → ((t : Term) → o ≡ Some t → IsThere k t) → ((t : Term) → q ≡ Some t → IsThere k t) →
      option_and_then (λ a. option_map (λ b. Same a b) q) o ≡ Some lesson → LessonIsThere k lesson
  same_there None q lesson h g e = cc
  same_there (Some a) None lesson h g e = cc
  same_there (Some a) (Some b) lesson h g e = subst (LessonIsThere k) (same_Some (Same a b) lesson e) (h a refl, g b refl)

  holds_there : (op : Op) (o q : Option Term) (lesson : Lesson) → ((t : Term) → o ≡ Some t → IsThere k t) → ((t : Term) → q ≡ Some t → IsThere k t) →
      option_and_then (λ a. option_map (λ b. Holds (record { op = op; left = a; right = b })) q) o ≡ Some lesson → LessonIsThere k lesson
  holds_there op None q lesson h g e = cc
  holds_there op (Some a) None lesson h g e = cc
  holds_there op (Some a) (Some b) lesson h g e = subst (LessonIsThere k) (same_Some (Holds (record { op = op; left = a; right = b })) lesson e) (h a refl, g b refl)

  all_of : {X : Type 0} (f : X → Option Lesson) → ((x : X) (lesson : Lesson) → f x ≡ Some lesson → LessonIsThere k lesson) → (xs : List X) (lessons : List Lesson) →
      map f xs ≡ map Some lessons → All (LessonIsThere k) lessons
  all_of f each [] [] e = All-nil (LessonIsThere k)
  all_of f each [] (lesson ∷ lessons) e = cc
  all_of f each (x ∷ xs) [] e = cc
  all_of f each (x ∷ xs) (lesson ∷ lessons) e =
      let first : f x ≡ Some lesson = cc in
      let rest : map f xs ≡ map Some lessons = cc in
      All-cons (LessonIsThere k) lesson lessons (each x lesson first) (all_of f each xs lessons rest)

  pub pairs_there : (ts us : List Term) → TermsAreThere k ts → TermsAreThere k us → All (LessonIsThere k) (map (λ two. Same two.0 two.1) (zip ts us))
  pairs_there [] us h g = All-nil (LessonIsThere k)
  pairs_there (t ∷ ts) [] h g = All-nil (LessonIsThere k)
  pairs_there (t ∷ ts) (u ∷ us) h g =
      All-cons (LessonIsThere k) (Same t u) (map (λ two. Same two.0 two.1) (zip ts us)) (All-head (IsThere k) t ts h, All-head (IsThere k) u us g)
      (pairs_there ts us (All-tail (IsThere k) t ts h) (All-tail (IsThere k) u us g))

  pub links_there : (ts us : List Term) → TermsAreThere k ts → TermsAreThere k us → (pairs : List (ℕ × ℕ)) (lessons : List Lesson) → map (same_at ts us) pairs ≡ map Some lessons →
      All (LessonIsThere k) lessons
  links_there ts us h g pairs lessons e =
      all_of (same_at ts us)
      (λ pair lesson is. same_there (slice_get ts pair.0) (slice_get us pair.1) lesson (λ t at. All-at (IsThere k) ts pair.0 t h at) (λ t at. All-at (IsThere k) us pair.1 t g at) is)
      pairs lessons e

  module _ (rows : List (List Term)) (there : (x : Operand) (t : Term) → term_of rows x ≡ Some t → IsThere k t) where
    pub atoms_there : (conds : List Atom) (lessons : List Lesson) → map (lesson_of rows) conds ≡ map Some lessons → All (LessonIsThere k) lessons
    atoms_there conds lessons e =
        all_of (lesson_of rows) (λ atom lesson is. holds_there atom.op (term_of rows atom.left) (term_of rows atom.right) lesson (there atom.left) (there atom.right) is) conds lessons e

    head_there : (o : Option Term) (u : Term) (lesson : Lesson) → ((t : Term) → o ≡ Some t → IsThere k t) → IsThere k u → option_map (λ t. Same t u) o ≡ Some lesson → LessonIsThere k lesson
    head_there None u lesson h g e = cc
    head_there (Some t) u lesson h g e = subst (LessonIsThere k) (same_Some (Same t u) lesson e) (h t refl, g)

    heads_there : (head : List Operand) (row : List Term) → TermsAreThere k row → (lessons : List Lesson) → map (same_of rows) (zip head row) ≡ map Some lessons →
        All (LessonIsThere k) lessons
    heads_there [] row g [] e = All-nil (LessonIsThere k)
    heads_there [] row g (lesson ∷ lessons) e = cc
    heads_there (x ∷ head) [] g [] e = All-nil (LessonIsThere k)
    heads_there (x ∷ head) [] g (lesson ∷ lessons) e = cc
    heads_there (x ∷ head) (u ∷ row) g [] e = cc
    heads_there (x ∷ head) (u ∷ row) g (lesson ∷ lessons) e =
        let first : same_of rows (x, u) ≡ Some lesson = cc in
        let rest : map (same_of rows) (zip head row) ≡ map Some lessons = cc in
        All-cons (LessonIsThere k) lesson lessons (head_there (term_of rows x) u lesson (there x) (All-head (IsThere k) u row g) first)
        (heads_there head row (All-tail (IsThere k) u row g) lessons rest)

-- ---- branches to which facts and lessons are added

pub lesson_more : (k l : Known) → length k.unknowns ≤ length l.unknowns → (lesson : Lesson) → LessonIsThere k lesson → LessonIsThere l lesson
lesson_more k l more (Same a b) h = (there_more k l more a h.0, there_more k l more b h.1)
lesson_more k l more (Holds atom) h = (there_more k l more atom.left h.0, there_more k l more atom.right h.1)

pub lessons_more : (b : Branch) (lessons : List Lesson) → LessonsAreThere b → All (LessonIsThere b.known) lessons → LessonsAreThere (with_lessons b lessons)
lessons_more b lessons h g =
    let new = with_lessons b lessons in
    All-append (LessonIsThere new.known) b.known.learned lessons
    (All-weaker (LessonIsThere b.known) (LessonIsThere new.known) (lesson_more b.known new.known (omega arith)) b.known.learned h)
    (All-weaker (LessonIsThere b.known) (LessonIsThere new.known) (lesson_more b.known new.known (omega arith)) lessons g)

module _ (s : Schema) (side : Side) (round : ℕ) where
  pub facts_keep : (from : List ℕ) (b : Branch) → LessonsAreThere b → LessonsAreThere (with_facts s side round b from)
  facts_keep from b h =
      let new = with_facts s side round b from in
      subst (All (LessonIsThere new.known)) (sym (learned_same s side round from b))
      (All-weaker (LessonIsThere b.known) (LessonIsThere new.known) (lesson_more b.known new.known (unknowns_kept s side round from b)) b.known.learned h)

  case_there : (b : Branch) (row : List Term) (part : Part) (new : Branch) → FactsAreThere b → TermsAreThere b.known row → LessonsAreThere b →
      IsCase s b side round row part new → LessonsAreThere new
  case_there b row part new facts row_is h case =
      let mid = with_facts s side round b part.from in
      let numbers = range_with_len (length b.facts) (length part.from) in
      let mid_facts = facts_there s side round part.from b facts in
      let there : (x : Operand) (t : Term) → term_of (rows_at mid numbers) x ≡ Some t → IsThere mid.known t = λ x t e. term_there mid numbers x t mid_facts e in
      let mid_row = row_there_more b.known mid.known (unknowns_kept s side round part.from b) row row_is in
      subst LessonsAreThere (sym case.new_is)
      (lessons_more mid (case.atoms ++ case.heads) (facts_keep part.from b h)
      (All-append (LessonIsThere mid.known) case.atoms case.heads (atoms_there mid.known (rows_at mid numbers) there part.conds case.atoms case.atoms_are)
      (heads_there mid.known (rows_at mid numbers) there part.head row mid_row case.heads case.heads_are)))

  pub cases_there : (b : Branch) (row : List Term) (parts : List Part) (cases : List Branch) → FactsAreThere b → TermsAreThere b.known row → LessonsAreThere b →
      AllZip (IsCase s b side round row) parts cases → All LessonsAreThere cases
  cases_there b row [] [] facts row_is h zip = All-nil LessonsAreThere
  cases_there b row [] (new ∷ cases) facts row_is h zip = absurd zip
  cases_there b row (part ∷ parts) [] facts row_is h zip = absurd zip
  cases_there b row (part ∷ parts) (new ∷ cases) facts row_is h zip =
      All-cons LessonsAreThere new cases (case_there b row part new facts row_is h zip.0) (cases_there b row parts cases facts row_is h zip.1)
