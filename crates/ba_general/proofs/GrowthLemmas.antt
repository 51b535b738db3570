-- Steps that are accepted of a problem are accepted of one with variables for some of its literals, where more is assumed.
use Rattle.std.proofs.Common.{◌≡◌, ℕ, zero, suc, ◌+◌, ◌⊎◌, inl, inr, List, [], ◌∷◌, ◌++◌, length, map, All, Any, Contains, refl, sym, ap, ap₂, ◌∙◌, subst}
use Rattle.std.proofs.lemmas.List.Elements.{All-cons, All-head, All-nil, All-tail, All-weaker}
use Rattle.std.proofs.lemmas.Option.{same_Some}
use Rattle.std.specs.List.{AllZip, range_with_len, zip}
use Rattle.std.specs.Prelude.{Option, Some, None, slice_get, slice_set, unwrap_or, option_map}
use Rattle.ba_model.proofs.ElementLemmas.{Contains-cases, Contains-head, Contains-later, Contains-nil}
use Rattle.ba_model.specs.SchemaFaults.{columns_of}
use Rattle.ba_model.specs.declared.query.Atom.{Atom}
use Rattle.ba_model.specs.declared.query.Op.{Op}
use Rattle.ba_model.specs.declared.query.Op.TheVariants as ops
use Rattle.ba_model.specs.declared.query.Operand.{Operand}
use Rattle.ba_model.specs.declared.query.Operand.TheVariants as operands
use Rattle.ba_model.specs.declared.query.Part.{Part}
use Rattle.ba_model.specs.declared.query.Query.{Query}
use Rattle.ba_model.specs.declared.schema.Kind.{Kind}
use Rattle.ba_model.specs.declared.schema.Schema.{Schema}
use Rattle.ba_model.specs.declared.value.Value.{Value}
use Rattle.ba_facts.proofs.ClassMoves.{same_moves, shown_moves}
use Rattle.ba_facts.proofs.NameLemmas.{value_cases}
use Rattle.ba_facts.specs.Known.{OneClass}
use Rattle.ba_facts.specs.Knowing.{sort_of}
use Rattle.ba_facts.specs.Laws.{kind_of_term}
use Rattle.ba_facts.specs.Matches.{AreTheSame, IsFactOf, IsMapping, IsShown, round_of, row_of, term_of, terms_at}
use Rattle.ba_facts.specs.Shown.{ShowsOf}
use Rattle.ba_facts.specs.declared.branch.Branch.{Branch}
use Rattle.ba_facts.specs.declared.term.Fact.{Fact}
use Rattle.ba_facts.specs.declared.term.Lesson.{Lesson}
use Rattle.ba_facts.specs.declared.term.Lesson.TheVariants.{Same, Holds}
use Rattle.ba_facts.specs.declared.term.Side.{Side}
use Rattle.ba_facts.specs.declared.term.Side.TheVariants.{One, Two}
use Rattle.ba_facts.specs.declared.term.Sort.{Sort}
use Rattle.ba_facts.specs.declared.term.Term.{Term}
use Rattle.ba_facts.specs.declared.term.Term.TheVariants as terms
use Rattle.ba_facts.specs.declared.term.TermAtom.{TermAtom}
use Rattle.ba_kernel.proofs.CaseFactLemmas.{zip_append, zip_length}
use Rattle.ba_kernel.specs.Courses.{AllClosed, IsStart, IsStartOf, Runs, Slots, Takes, after, branch_of, nothing_known}
use Rattle.ba_kernel.specs.Effects.{IsCase, IsEntryRound, IsLiteralOf, IsSide, SharesLiteral, lesson_of, negation, rows_at, same_at, same_of, with_fact, with_facts, with_lessons}
use Rattle.ba_kernel.specs.Steps.{AreEqualAt, EntryLeads, FactsPass, GoalLeads, IsNotNullAt, KeyLeads, Leads, LinkLeads, MayBeSplit, RuleLeads, SplitLeads, SplitPasses, ViewLeads}
use Rattle.ba_kernel.specs.Replays.{Closes}
use Rattle.ba_kernel.specs.declared.problem.Problem.{Problem}
use Rattle.ba_kernel.specs.declared.problem.ProblemEntry.{ProblemEntry}
use Rattle.ba_kernel.specs.declared.step.Step.{Step}
use Rattle.ba_kernel.specs.declared.step.Step.TheVariants as steps
use Rattle.ba_general.proofs.KnowledgeLemmas.{Follows, absurd_follows, equal_follows, neither_follows, same_follows, shown_follows, shown_not_null_follows}
use Rattle.ba_general.proofs.ValuesLemmas.{AtomAt, Both, EachIs, EntryAt, Fixes, LessonAt, OperandAt, PartAt, QueryAt, TermAt}
use Rattle.ba_general.proofs.ValuesLemmas.{atom_lesson, each_more, each_none, each_zip, fixes_behind, fixes_more, lesson_itself, lessons_follow, operand_term, pair_lesson, part_itself, term_class, term_itself}
use Rattle.ba_general.proofs.ValuesLemmas.{zip_at, zip_both, zip_given, zip_itself}

-- ---- branches

-- of one side and table, with the same terms; its round may differ
pub record FactLike (f g : Fact) : Type 0 where
  pub side : g.side ≡ f.side
  pub table : g.table ≡ f.table
  pub terms : g.terms ≡ f.terms

-- each kind of the first is a kind of the second
pub record KindsStay (xs ys : List Kind) : Type 0 where
  pub of : (n : ℕ) (kind : Kind) → slice_get xs n ≡ Some kind → slice_get ys n ≡ Some kind

-- The second branch has the facts of the first, and what the first learned and its goal row with variables for some literals; it may have learned more.
pub record BranchAt (values : List Value) (b c : Branch) : Type 0 where
  pub params : c.params ≡ b.params
  pub vars : KindsStay b.vars c.vars
  pub unknowns : c.known.unknowns ≡ b.known.unknowns
  pub learned : EachIs values b.known.learned c.known.learned
  pub facts : AllZip FactLike b.facts c.facts
  pub goal : AllZip (TermAt values) b.goal c.goal

-- and it knows what the variables stand for
pub record Grows (values : List Value) (b c : Branch) : Type 0 where
  pub at : BranchAt values b c
  pub fixes : Fixes values c.known.learned

rows_like : (fs gs : List Fact) (n : ℕ) → AllZip FactLike fs gs →
    unwrap_or (option_map (λ (fact : Fact). fact.terms) (slice_get gs n)) [] ≡ unwrap_or (option_map (λ (fact : Fact). fact.terms) (slice_get fs n)) []
rows_like [] [] n h = refl
rows_like [] (g ∷ gs) n h = absurd h
rows_like (f ∷ fs) [] n h = absurd h
rows_like (f ∷ fs) (g ∷ gs) zero h = (h.0).terms
rows_like (f ∷ fs) (g ∷ gs) (suc n) h = rows_like fs gs n h.1

same_map : {X Y : Type 0} (f g : X → Y) → ((x : X) → g x ≡ f x) → (xs : List X) → map g xs ≡ map f xs
same_map f g each [] = refl
same_map f g each (x ∷ xs) = ap₂ (λ z zs. z ∷ zs) (each x) (same_map f g each xs)

module _ (values : List Value) (b c : Branch) (h : BranchAt values b c) where
  terms_like : (n : ℕ) → terms_at c n ≡ terms_at b n
  terms_like n = rows_like b.facts c.facts n h.facts

  pub rows_stay : (facts : List ℕ) → rows_at c facts ≡ rows_at b facts
  rows_stay facts = same_map (terms_at b) (terms_at c) terms_like facts

  fact_stays : (side : Side) (table n : ℕ) → IsFactOf b side table n → IsFactOf c side table n
  fact_stays side table n f =
      let it = zip_at FactLike b.facts c.facts n f.fact h.facts f.there in
      record { fact = it.0; there = it.1; side_is = (it.2).side ∙ f.side_is; table_is = (it.2).table ∙ f.table_is }

  pub mapping_stays : (side : Side) (from facts : List ℕ) → IsMapping b side from facts → IsMapping c side from facts
  mapping_stays side [] [] m = tt
  mapping_stays side [] (n ∷ facts) m = absurd m
  mapping_stays side (table ∷ from) [] m = absurd m
  mapping_stays side (table ∷ from) (n ∷ facts) m = (fact_stays side table n m.0, mapping_stays side from facts m.1)

  -- a fact of a table more
  fact_like : (s : Schema) (side : Side) (round other table : ℕ) → BranchAt values (with_fact s side round b table) (with_fact s side other c table)
  fact_like s side round other table =
      let new : (us : List Sort) → List Term = λ us. map terms.Unknown (range_with_len (length us) (length (columns_of s.tables table))) in
      record {
        params = h.params;
        vars = h.vars;
        unknowns = ap (λ (us : List Sort). us ++ map sort_of (columns_of s.tables table)) h.unknowns;
        learned = h.learned;
        facts =
            zip_append FactLike b.facts (record { side = side; table = table; terms = new b.known.unknowns; round = round } ∷ []) c.facts
            (record { side = side; table = table; terms = new c.known.unknowns; round = other } ∷ []) h.facts
            (record { side = refl; table = refl; terms = ap new h.unknowns }, tt);
        goal = h.goal;
      }

  -- lessons more
  pub lessons_like : (ls ms : List Lesson) → EachIs values ls ms → BranchAt values (with_lessons b ls) (with_lessons c ms)
  lessons_like ls ms each = record {
    params = h.params;
    vars = h.vars;
    unknowns = h.unknowns;
    learned = each_more values b.known.learned c.known.learned ls ms h.learned each;
    facts = h.facts;
    goal = h.goal;
  }

facts_like : (values : List Value) (s : Schema) (side : Side) (round other : ℕ) (from : List ℕ) (b c : Branch) → BranchAt values b c →
    BranchAt values (with_facts s side round b from) (with_facts s side other c from)
facts_like values s side round other [] b c h = h
facts_like values s side round other (table ∷ from) b c h =
    facts_like values s side round other from (with_fact s side round b table) (with_fact s side other c table) (fact_like values b c h s side round other table)

learned_stays : (s : Schema) (side : Side) (round : ℕ) (from : List ℕ) (c : Branch) → (with_facts s side round c from).known.learned ≡ c.known.learned
learned_stays s side round [] c = refl
learned_stays s side round (table ∷ from) c = learned_stays s side round from (with_fact s side round c table)

-- ---- tests

module _ (values : List Value) (b c : Branch) (h : Grows values b c) where
  follows : Follows b.known c.known
  follows = lessons_follow values b.known c.known h.fixes h.at.unknowns h.at.learned

  class_of : (t u : Term) → TermAt values t u → OneClass c.known t u
  class_of = term_class values b.known c.known h.fixes

  -- an atom that is shown of the facts' terms stays so
  atom_stays : (facts : List ℕ) (x y : Atom) → AtomAt values x y → IsShown b.known (rows_at b facts) x → IsShown c.known (rows_at c facts) y
  atom_stays facts x y at shown =
      let left = operand_term values (rows_at b facts) x.left y.left shown.left at.left shown.left_is in
      let right = operand_term values (rows_at b facts) x.right y.right shown.right at.right shown.right_is in
      let rows = rows_stay values b c h.at facts in
      let known = shown_follows b.known c.known follows x.op shown.left shown.right shown.holds in
      let moved = shown_moves c.known x.op shown.left shown.right left.0 right.0 (class_of shown.left left.0 left.2) (class_of shown.right right.0 right.2) known in
      record {
        left = left.0;
        right = right.0;
        left_is = ap (λ (rs : List (List Term)). term_of rs y.left) rows ∙ left.1;
        right_is = ap (λ (rs : List (List Term)). term_of rs y.right) rows ∙ right.1;
        holds = subst (λ op. ShowsOf c.known op left.0 right.0) (sym at.op) moved;
      }

  conds_stay : (facts : List ℕ) (xs ys : List Atom) → AllZip (AtomAt values) xs ys → All (IsShown b.known (rows_at b facts)) xs → All (IsShown c.known (rows_at c facts)) ys
  conds_stay facts [] [] at shown = All-nil (IsShown c.known (rows_at c facts))
  conds_stay facts [] (y ∷ ys) at shown = absurd at
  conds_stay facts (x ∷ xs) [] at shown = absurd at
  conds_stay facts (x ∷ xs) (y ∷ ys) at shown =
      All-cons (IsShown c.known (rows_at c facts)) y ys
      (atom_stays facts x y at.0 (All-head (IsShown b.known (rows_at b facts)) x xs shown))
      (conds_stay facts xs ys at.1 (All-tail (IsShown b.known (rows_at b facts)) x xs shown))

  equal_stays : (fs gs us vs : List Term) (n : ℕ) → us ≡ fs → vs ≡ gs → AreEqualAt b fs gs n → AreEqualAt c us vs n
  equal_stays fs gs us vs n left right e = record {
    a = e.a;
    c = e.c;
    left_is = ap (λ (ts : List Term). slice_get ts n) left ∙ e.left_is;
    right_is = ap (λ (ts : List Term). slice_get ts n) right ∙ e.right_is;
    equal = equal_follows b.known c.known follows e.equal;
  }

  not_null_stays : (fs us : List Term) (n : ℕ) → us ≡ fs → IsNotNullAt b fs n → IsNotNullAt c us n
  not_null_stays fs us n same e = record {
    a = e.a;
    there = ap (λ (ts : List Term). slice_get ts n) same ∙ e.there;
    not_null = shown_not_null_follows b.known c.known follows e.not_null;
  }

  may_stay : (op : Op) (x y : Term) → MayBeSplit b op x y → MayBeSplit c op x y
  may_stay ops.Eq x y m = neither_follows b.known c.known follows m
  may_stay ops.Ne x y m = neither_follows b.known c.known follows m
  may_stay ops.Lt x y m = neither_follows b.known c.known follows m
  may_stay ops.Le x y m = neither_follows b.known c.known follows m
  may_stay ops.IsNull x y m = m
  may_stay ops.NotNull x y m = m

  kind_stays : (t : Term) (kind : Kind) → kind_of_term b t ≡ Some kind → kind_of_term c t ≡ Some kind
  kind_stays (terms.Unknown n) kind e = ap (λ (us : List Sort). option_map (λ (sort : Sort). sort.kind) (slice_get us n)) h.at.unknowns ∙ e
  kind_stays (terms.Val v) kind e = e
  kind_stays (terms.Param n) kind e = ap (λ (ks : List Kind). slice_get ks n) h.at.params ∙ e
  kind_stays (terms.Var n) kind e = h.at.vars.of n kind e

  split_stays : (atom : TermAtom) → SplitPasses b atom → SplitPasses c atom
  split_stays atom f = record {
    kind = f.kind;
    sides = record { left = kind_stays atom.left f.kind f.sides.left; right = kind_stays atom.right f.kind f.sides.right };
    op = f.op;
    may = may_stay atom.op atom.left atom.right f.may;
  }

  -- ---- what a step makes

  grown : (ls ms : List Lesson) → EachIs values ls ms → Grows values (with_lessons b ls) (with_lessons c ms)
  grown ls ms each = record { at = lessons_like values b c h.at ls ms each; fixes = fixes_more values c.known.learned ms h.fixes }

  heads_stay : (rows others : List (List Term)) → others ≡ rows → (xs ys : List Operand) (ts : List Term) → AllZip (OperandAt values) xs ys →
      map (term_of rows) xs ≡ map Some ts → (us : List Term) × (map (term_of others) ys ≡ map Some us) × AllZip (TermAt values) ts us
  heads_stay rows others same xs ys ts at e =
      let it = zip_given (OperandAt values) (TermAt values) (term_of rows) (term_of rows) (operand_term values rows) xs ys ts at e in
      (it.0, ap (λ (rs : List (List Term)). map (term_of rs) ys) same ∙ it.1, it.2)

  case_stays : (s : Schema) (side : Side) (round other : ℕ) (row line : List Term) (x y : Part) (new : Branch) → PartAt values x y → AllZip (TermAt values) row line →
      IsCase s b side round row x new → (it : Branch) × IsCase s c side other line y it × Grows values new it
  case_stays s side round other row line x y new at rows is =
      let old = with_facts s side round b x.from in
      let mine = with_facts s side other c x.from in
      let like : BranchAt values old mine = facts_like values s side round other x.from b c h.at in
      let count : length c.facts ≡ length b.facts = sym (zip_length FactLike b.facts c.facts h.at.facts) in
      let numbers : List ℕ → ℕ → List ℕ = λ from n. range_with_len n (length from) in
      let terms_b = rows_at old (numbers x.from (length b.facts)) in
      let terms_c : rows_at (with_facts s side other c y.from) (numbers y.from (length c.facts)) ≡ terms_b =
      ap (λ (from : List ℕ). rows_at (with_facts s side other c from) (numbers from (length c.facts))) at.from ∙
      (ap (λ n. rows_at mine (numbers x.from n)) count ∙ rows_stay values old mine like (numbers x.from (length b.facts))) in
      let atoms = zip_given (AtomAt values) (LessonAt values) (lesson_of terms_b) (lesson_of terms_b) (atom_lesson values terms_b) x.conds y.conds is.atoms at.conds is.atoms_are in
      let heads = zip_given (Both (OperandAt values) (TermAt values)) (LessonAt values) (same_of terms_b) (same_of terms_b) (pair_lesson values terms_b)
      (zip x.head row) (zip y.head line) is.heads (zip_both (OperandAt values) (TermAt values) x.head y.head row line at.head rows) is.heads_are in
      let result = with_lessons (with_facts s side other c y.from) (atoms.0 ++ heads.0) in
      let each : EachIs values (is.atoms ++ is.heads) (atoms.0 ++ heads.0) =
      each_zip values (is.atoms ++ is.heads) (atoms.0 ++ heads.0) (zip_append (LessonAt values) is.atoms is.heads atoms.0 heads.0 atoms.2 heads.2) in
      let fixed : Fixes values (mine.known.learned ++ (atoms.0 ++ heads.0)) =
      fixes_more values mine.known.learned (atoms.0 ++ heads.0) (subst (Fixes values) (sym (learned_stays s side other x.from c)) h.fixes) in
      let grows : Grows values (with_lessons old (is.atoms ++ is.heads)) (with_lessons mine (atoms.0 ++ heads.0)) =
      record { at = lessons_like values old mine like (is.atoms ++ is.heads) (atoms.0 ++ heads.0) each; fixes = fixed } in
      let wide : length y.head ≡ length line =
      sym (zip_length (OperandAt values) x.head y.head at.head) ∙ (is.wide ∙ zip_length (TermAt values) row line rows) in
      let from : Grows values (with_lessons old (is.atoms ++ is.heads)) result =
      subst (λ (tables : List ℕ). Grows values (with_lessons old (is.atoms ++ is.heads)) (with_lessons (with_facts s side other c tables) (atoms.0 ++ heads.0))) (sym at.from) grows in (
        result,
        record {
          atoms = atoms.0;
          heads = heads.0;
          wide = wide;
          atoms_are = ap (λ (rs : List (List Term)). map (lesson_of rs) y.conds) terms_c ∙ atoms.1;
          heads_are = ap (λ (rs : List (List Term)). map (same_of rs) (zip y.head line)) terms_c ∙ heads.1;
          new_is = refl;
        },
        subst (λ it. Grows values it result) (sym is.new_is) from,
      )

  cases_stay : (s : Schema) (side : Side) (round other : ℕ) (row line : List Term) (xs ys : List Part) (cases : List Branch) → AllZip (PartAt values) xs ys →
      AllZip (TermAt values) row line → AllZip (IsCase s b side round row) xs cases →
      (its : List Branch) × AllZip (IsCase s c side other line) ys its × AllZip (Grows values) cases its
  cases_stay s side round other row line [] [] [] at rows are = ([], tt, tt)
  cases_stay s side round other row line [] [] (new ∷ cases) at rows are = absurd are
  cases_stay s side round other row line [] (y ∷ ys) cases at rows are = absurd at
  cases_stay s side round other row line (x ∷ xs) [] cases at rows are = absurd at
  cases_stay s side round other row line (x ∷ xs) (y ∷ ys) [] at rows are = absurd are
  cases_stay s side round other row line (x ∷ xs) (y ∷ ys) (new ∷ cases) at rows are =
      let it = case_stays s side round other row line x y new at.0 rows are.0 in
      let more = cases_stay s side round other row line xs ys cases at.1 rows are.1 in
      (it.0 ∷ more.0, (it.1, more.1), (it.2, more.2))

  pass_stays : (side : Side) (part : Part) (facts : List ℕ) → FactsPass b side part facts → FactsPass c side part facts
  pass_stays side part facts pass = record {
    mapping = mapping_stays values b c h.at side part.from facts pass.mapping;
    shown = conds_stay facts part.conds part.conds (part_itself values part).conds pass.shown;
  }

  row_gives : (part : Part) (facts : List ℕ) (row : List Term) → row_of b facts part.head ≡ map Some row → row_of c facts part.head ≡ map Some row
  row_gives part facts row is = ap (λ (rs : List (List Term)). map (term_of rs) part.head) (rows_stay values b c h.at facts) ∙ is

  head_stays : (rows : List (List Term)) (x y : Operand) (t u : Term) → OperandAt values x y → TermAt values t u →
      AreTheSame b.known (term_of rows x) (Some t) → AreTheSame c.known (term_of rows y) (Some u)
  head_stays rows x y t u at to same =
      let left = operand_term values rows x y same.left at same.left_is in
      let right : same.right ≡ t = sym (same_Some t same.right same.right_is) in
      let known = same_follows b.known c.known follows same.left same.right same.same in
      let moved = same_moves c.known same.left same.right left.0 u (class_of same.left left.0 left.2)
      (subst (λ (z : Term). OneClass c.known z u) (sym right) (class_of t u to)) known in
      record { left = left.0; right = u; left_is = left.1; right_is = refl; same = moved }

  row_stays : (rows : List (List Term)) (xs ys : List Operand) (ts us : List Term) → AllZip (OperandAt values) xs ys → AllZip (TermAt values) ts us →
      AllZip (AreTheSame b.known) (map (term_of rows) xs) (map Some ts) → AllZip (AreTheSame c.known) (map (term_of rows) ys) (map Some us)
  row_stays rows [] [] [] [] at to same = tt
  row_stays rows [] [] [] (u ∷ us) at to same = absurd to
  row_stays rows [] [] (t ∷ ts) us at to same = absurd same
  row_stays rows [] (y ∷ ys) ts us at to same = absurd at
  row_stays rows (x ∷ xs) [] ts us at to same = absurd at
  row_stays rows (x ∷ xs) (y ∷ ys) [] us at to same = absurd same
  row_stays rows (x ∷ xs) (y ∷ ys) (t ∷ ts) [] at to same = absurd to
  row_stays rows (x ∷ xs) (y ∷ ys) (t ∷ ts) (u ∷ us) at to same =
      (head_stays rows x y t u at.0 to.0 same.0, row_stays rows xs ys ts us at.1 to.1 same.1)

-- ---- the round of an entry

-- some element of a list is P, or none is
some_or_none : {X : Type 0} (P : X → Type 0) → ((x : X) → P x ⊎ (¬ (P x))) → (xs : List X) → ((x : X) × Contains xs x × P x) ⊎ ((x : X) → Contains xs x → ¬ (P x))
some_or_none P tell [] = inr (λ x there. absurd (Contains-nil x there))
some_or_none {X} P tell (x ∷ xs) =
    elim (tell x) as (λ _. ((y : X) × Contains (x ∷ xs) y × P y) ⊎ ((y : X) → Contains (x ∷ xs) y → ¬ (P y))) [
      | inl here ↦ inl (x, Contains-head x xs, here)
      | inr not ↦ elim (some_or_none P tell xs) as (λ _. ((y : X) × Contains (x ∷ xs) y × P y) ⊎ ((y : X) → Contains (x ∷ xs) y → ¬ (P y))) [
        | inl later ↦ inl (later.0, Contains-later x xs later.0 later.1, later.2)
        | inr none ↦ inr (λ y there p. elim (Contains-cases x xs y there) as (λ _. ⊥) [ inl same ↦ not (subst P (sym same) p) | inr later ↦ none y later p ])
      ]
    ]

literal_or_not : (x : Operand) (v : Value) → (x ≡ operands.Val v) ⊎ (¬ (x ≡ operands.Val v))
literal_or_not (operands.Col place column) v = inr (λ e. cc)
literal_or_not (operands.Val w) v =
    elim (value_cases w v) as (λ _. (operands.Val w ≡ operands.Val v) ⊎ (¬ (operands.Val w ≡ operands.Val v))) [
      | inl same ↦ inl (ap operands.Val same)
      | inr other ↦ inr (λ e. other (let same : w ≡ v = cc in same))
    ]
literal_or_not (operands.Param n) v = inr (λ e. cc)
literal_or_not (operands.Var n) v = inr (λ e. cc)

or_either : (P Q : Type 0) → P ⊎ (¬ P) → Q ⊎ (¬ Q) → (P ⊎ Q) ⊎ (¬ (P ⊎ Q))
or_either P Q (inl p) q = inl (inl p)
or_either P Q (inr np) (inl q) = inl (inr q)
or_either P Q (inr np) (inr nq) = inr (λ h. elim h as (λ _. ⊥) [ inl p ↦ np p | inr q ↦ nq q ])

side_or_not : (v : Value) (atom : Atom) → IsSide v atom ⊎ (¬ (IsSide v atom))
side_or_not v atom = or_either (atom.left ≡ operands.Val v) (atom.right ≡ operands.Val v) (literal_or_not atom.left v) (literal_or_not atom.right v)

any_from : {X : Type 0} (P : X → Type 0) (xs : List X) (x : X) → Contains xs x → P x → Any P xs
any_from P xs x there p = (there.0, x, there.1, there.2, p)

from_any : {X : Type 0} (P : X → Type 0) (xs : List X) → Any P xs → (x : X) × Contains xs x × P x
from_any P xs h = (h.1, (h.0, h.2, h.3), h.4)

any_or_none : {X : Type 0} (P : X → Type 0) → ((x : X) → P x ⊎ (¬ (P x))) → (xs : List X) → Any P xs ⊎ (¬ (Any P xs))
any_or_none P tell xs =
    elim (some_or_none P tell xs) as (λ _. Any P xs ⊎ (¬ (Any P xs))) [
      | inl some ↦ inl (any_from P xs some.0 some.1 some.2)
      | inr none ↦ inr (λ h. let it = from_any P xs h in none it.0 it.1 it.2)
    ]

contains_or_not : (xs : List Operand) (v : Value) → Contains xs (operands.Val v) ⊎ (¬ (Contains xs (operands.Val v)))
contains_or_not xs v =
    elim (some_or_none (λ x. x ≡ operands.Val v) (λ x. literal_or_not x v) xs) as (λ _. Contains xs (operands.Val v) ⊎ (¬ (Contains xs (operands.Val v)))) [
      | inl some ↦ inl (subst (Contains xs) some.2 some.1)
      | inr none ↦ inr (λ there. none (operands.Val v) there refl)
    ]

abbrev StandsIn : Value → Part → Type 0
StandsIn v part = Any (IsSide v) part.conds ⊎ Contains part.head (operands.Val v)

literal_of_or_not : (q : Query) (v : Value) → IsLiteralOf q v ⊎ (¬ (IsLiteralOf q v))
literal_of_or_not q v =
    elim (some_or_none (StandsIn v)
    (λ (part : Part). or_either (Any (IsSide v) part.conds) (Contains part.head (operands.Val v)) (any_or_none (IsSide v) (side_or_not v) part.conds) (contains_or_not part.head v)) q.parts)
    as (λ _. IsLiteralOf q v ⊎ (¬ (IsLiteralOf q v))) [
      | inl some ↦ inl (record { part = some.0; of = some.1; stands = some.2 })
      | inr none ↦ inr (λ h. none h.part h.of h.stands)
    ]

-- the operand is a literal of the query
abbrev IsOwn : Query → Operand → Type 0
IsOwn q x = (v : Value) × (x ≡ operands.Val v) × IsLiteralOf q v

own_or_not : (q : Query) (x : Operand) → IsOwn q x ⊎ (¬ (IsOwn q x))
own_or_not q (operands.Col place column) = inr (λ h. let e = h.1 in cc)
own_or_not q (operands.Val w) =
    elim (literal_of_or_not q w) as (λ _. IsOwn q (operands.Val w) ⊎ (¬ (IsOwn q (operands.Val w)))) [
      | inl is ↦ inl (w, refl, is)
      | inr not ↦ inr (λ h. let e = h.1 in let same : h.0 ≡ w = cc in not (subst (IsLiteralOf q) same h.2))
    ]
own_or_not q (operands.Param n) = inr (λ h. let e = h.1 in cc)
own_or_not q (operands.Var n) = inr (λ h. let e = h.1 in cc)

round_is : (p : Problem) (row : List Operand) → (n : ℕ) × IsEntryRound p row n
round_is p row =
    elim (some_or_none (IsOwn p.goal) (own_or_not p.goal) row) as (λ _. (n : ℕ) × IsEntryRound p row n) [
      | inl some ↦
          (1, inl (record { value = (some.2).0; in_row = subst (Contains row) (some.2).1 some.1; in_goal = (some.2).2 }, refl))
      | inr none ↦ (2, inr (λ (shares : SharesLiteral p row). none (operands.Val shares.value) shares.in_row (shares.value, refl, shares.in_goal), refl))
    ]

-- ---- steps

-- The entry with the number is, with variables, an entry of the second problem.
pub record EntryNumbers (values : List Value) (p g : Problem) (n m : ℕ) : Type 0 where
  pub of : (it : ProblemEntry) → slice_get p.entries n ≡ Some it → (new : ProblemEntry) × (slice_get g.entries m ≡ Some new) × EntryAt values it new

-- the same step, but of an entry by its number in the second problem
abbrev pub StepAt : List Value → Problem → Problem → Step → Step → Type 0
StepAt values p g (steps.Entry branch entry) new = (m : ℕ) × EntryNumbers values p g entry m × (new ≡ steps.Entry branch m)
StepAt values p g step new = new ≡ step

module _ (values : List Value) (p : Problem) (vars : List Kind) (assumed : List Atom) (entries : List ProblemEntry) (goal : Query) (goals : QueryAt values p.goal goal) where
  abbrev g : Problem
  g = record { policy = p.policy; vars = vars; assumed = assumed; entries = entries; goal = goal }

  -- what a step leads to grows
  abbrev LeadsOn : Branch → Branch → Step → List Branch → Type 0
  LeadsOn b c step cases = (its : List Branch) × Leads g c step its × AllZip (Grows values) cases its

  module _ (b c : Branch) (h : Grows values b c) (cases : List Branch) where
    count : length c.facts ≡ length b.facts
    count = sym (zip_length FactLike b.facts c.facts h.at.facts)

    entry_on : (branch n m : ℕ) → EntryNumbers values p g n m → EntryLeads p b n cases → LeadsOn b c (steps.Entry branch m) cases
    entry_on branch n m numbers l =
        let it = numbers.of l.passes.it l.passes.there in
        let row = zip_given (OperandAt values) (TermAt values) (term_of []) (term_of []) (operand_term values []) (l.passes.it).row (it.0).row l.row (it.2).row l.row_is in
        let round = round_is g (it.0).row in
        let its = cases_stay values b c h p.policy.schema One l.round round.0 l.row row.0 (l.passes.it).query.parts (it.0).query.parts cases (it.2).query row.2 l.cases_are in
        (its.0, record { passes = record { it = it.0; there = it.1 }; row = row.0; row_is = row.1; round = round.0; round_is = round.1; cases_are = its.1 }, its.2)

    key_on : (branch key left right : ℕ) → KeyLeads p b key left right cases → LeadsOn b c (steps.Key branch key left right) cases
    key_on branch key left right l =
        let f = zip_at FactLike b.facts c.facts left l.passes.f h.at.facts l.passes.pair.left_is in
        let k = zip_at FactLike b.facts c.facts right l.passes.g h.at.facts l.passes.pair.right_is in
        let lessons : List Lesson = map (λ two. Same two.0 two.1) (zip (l.passes.f).terms (l.passes.g).terms) in
        let its : map (λ (two : Term × Term). Same two.0 two.1) (zip (f.0).terms (k.0).terms) ≡ lessons =
        ap₂ (λ (xs ys : List Term). map (λ (two : Term × Term). Same two.0 two.1) (zip xs ys)) (f.2).terms (k.2).terms in
        let each : EachIs values lessons lessons = each_zip values lessons lessons (zip_itself (LessonAt values) (lesson_itself values) lessons) in
        let grows : AllZip (Grows values) (with_lessons b lessons ∷ []) (with_lessons c lessons ∷ []) = (grown values b c h lessons lessons each, tt) in (
          with_lessons c lessons ∷ [],
          record {
            passes = record {
              f = f.0;
              g = k.0;
              pair = record {
                left_is = f.1;
                right_is = k.1;
                side = (k.2).side ∙ (l.passes.pair.side ∙ sym (f.2).side);
                table = (k.2).table ∙ (l.passes.pair.table ∙ sym (f.2).table);
              };
              columns = l.passes.columns;
              key_of = record {
                table = l.passes.key_of.table;
                table_is = ap (λ (n : ℕ). slice_get p.policy.schema.tables n) (f.2).table ∙ l.passes.key_of.table_is;
                key_is = l.passes.key_of.key_is;
              };
              equal = All-weaker (AreEqualAt b (l.passes.f).terms (l.passes.g).terms) (AreEqualAt c (f.0).terms (k.0).terms)
                  (λ n. equal_stays values b c h (l.passes.f).terms (l.passes.g).terms (f.0).terms (k.0).terms n (f.2).terms (k.2).terms) l.passes.columns l.passes.equal;
            };
            cases_are = ap (λ (ls : List Lesson). with_lessons c ls ∷ []) (sym its);
          },
          subst (λ (xs : List Branch). AllZip (Grows values) xs (with_lessons c lessons ∷ [])) (sym l.cases_are) grows,
        )

    link_on : (branch link fact : ℕ) → LinkLeads p b link fact cases → LeadsOn b c (steps.Link branch link fact) cases
    link_on branch link fact l =
        let s = p.policy.schema in
        let f = zip_at FactLike b.facts c.facts fact l.passes.f h.at.facts l.passes.fact_is in
        let target = (l.passes.it).target in
        let old = with_fact s (l.passes.f).side (1 + (l.passes.f).round) b target in
        let mine = with_fact s (l.passes.f).side (1 + (f.0).round) c target in
        let like : BranchAt values old mine = fact_like values b c h.at s (l.passes.f).side (1 + (l.passes.f).round) (1 + (f.0).round) target in
        let ts : terms_at mine (length c.facts) ≡ terms_at old (length b.facts) =
        ap (λ n. terms_at mine n) count ∙ terms_like values old mine like (length b.facts) in
        let sides : terms_at (with_fact s (f.0).side (1 + (f.0).round) c target) (length c.facts) ≡ terms_at old (length b.facts) =
        ap (λ (side : Side). terms_at (with_fact s side (1 + (f.0).round) c target) (length c.facts)) (f.2).side ∙ ts in
        let each : EachIs values l.lessons l.lessons = each_zip values l.lessons l.lessons (zip_itself (LessonAt values) (lesson_itself values) l.lessons) in
        let grows : Grows values (with_lessons old l.lessons) (with_lessons mine l.lessons) = record {
          at = lessons_like values old mine like l.lessons l.lessons each;
          fixes = fixes_more values c.known.learned l.lessons h.fixes;
        } in
        let it = with_lessons (with_fact s (f.0).side (1 + (f.0).round) c target) l.lessons in
        let same : it ≡ with_lessons mine l.lessons = ap (λ (side : Side). with_lessons (with_fact s side (1 + (f.0).round) c target) l.lessons) (f.2).side in (
          it ∷ [],
          record {
            passes = record {
              f = f.0;
              fact_is = f.1;
              it = l.passes.it;
              link_of = record {
                table = l.passes.link_of.table;
                table_is = ap (λ (n : ℕ). slice_get s.tables n) (f.2).table ∙ l.passes.link_of.table_is;
                link_is = l.passes.link_of.link_is;
              };
              not_null = All-weaker (IsNotNullAt b (l.passes.f).terms) (IsNotNullAt c (f.0).terms)
                  (λ n. not_null_stays values b c h (l.passes.f).terms (f.0).terms n (f.2).terms) (l.passes.it).columns l.passes.not_null;
            };
            lessons = l.lessons;
            lessons_are = ap₂ (λ (xs ys : List Term). map (same_at xs ys) (zip (l.passes.it).columns (l.passes.it).target_columns)) (f.2).terms sides ∙ l.lessons_are;
            cases_are = refl;
          },
          subst (λ (xs : List Branch). AllZip (Grows values) xs (it ∷ [])) (sym l.cases_are) (subst (Grows values (with_lessons old l.lessons)) (sym same) grows, tt),
        )

    rule_on : (branch rule part : ℕ) (facts : List ℕ) → RuleLeads p b rule part facts cases → LeadsOn b c (steps.Rule branch rule part facts) cases
    rule_on branch rule part facts l =
        let k = l.passes in
        let parts = (k.is_part.of).right.parts in
        let row = (l.next).row in
        let its = cases_stay values b c h p.policy.schema k.side (1 + round_of b facts) (1 + round_of c facts) row row parts parts cases
        (zip_itself (PartAt values) (part_itself values) parts) (zip_itself (TermAt values) (term_itself values) row) (l.next).cases_are in (
          its.0,
          record {
            passes = record {
              it = k.it;
              is_part = record { of = k.is_part.of; rule_is = k.is_part.rule_is; part_is = k.is_part.part_is };
              side = k.side;
              pass = pass_stays values b c h k.side k.it facts k.pass;
            };
            next = record { row = row; row_is = row_gives values b c h k.it facts row (l.next).row_is; cases_are = its.1 };
          },
          its.2,
        )

    view_on : (branch view part : ℕ) (facts : List ℕ) → ViewLeads p b view part facts cases → LeadsOn b c (steps.View branch view part facts) cases
    view_on branch view part facts l =
        let k = l.passes in
        let parts = (k.is_part.of).query.parts in
        let row = (l.next).row in
        let its = cases_stay values b c h p.policy.schema Two (1 + round_of b facts) (1 + round_of c facts) row row parts parts cases
        (zip_itself (PartAt values) (part_itself values) parts) (zip_itself (TermAt values) (term_itself values) row) (l.next).cases_are in (
          its.0,
          record {
            passes = record {
              it = k.it;
              is_part = record { of = k.is_part.of; view_is = k.is_part.view_is; part_is = k.is_part.part_is };
              pass = pass_stays values b c h One k.it facts k.pass;
            };
            next = record { row = row; row_is = row_gives values b c h k.it facts row (l.next).row_is; cases_are = its.1 };
          },
          its.2,
        )

    split_on : (branch : ℕ) (atom : TermAtom) → SplitLeads b atom cases → LeadsOn b c (steps.Split branch atom) cases
    split_on branch atom l =
        let one : (lesson : Lesson) → Grows values (with_lessons b (lesson ∷ [])) (with_lessons c (lesson ∷ [])) =
        λ lesson. grown values b c h (lesson ∷ []) (lesson ∷ []) (each_zip values (lesson ∷ []) (lesson ∷ []) (lesson_itself values lesson, tt)) in
        let its : List Branch = with_lessons c (Holds atom ∷ []) ∷ with_lessons c (Holds (negation atom) ∷ []) ∷ [] in (
          its,
          record { passes = split_stays values b c h atom l.passes; cases_are = refl },
          subst (λ (xs : List Branch). AllZip (Grows values) xs its) (sym l.cases_are) (one (Holds atom), (one (Holds (negation atom)), tt)),
        )

    goal_on : (branch part : ℕ) (facts : List ℕ) → GoalLeads p b part facts cases → LeadsOn b c (steps.Goal branch part facts) cases
    goal_on branch part facts l =
        let of = zip_at (PartAt values) p.goal.parts goal.parts part l.passes.it goals l.passes.is_part in
        let rows = rows_stay values b c h.at facts in
        let heads = row_stays values b c h (rows_at b facts) (l.passes.it).head (of.0).head b.goal c.goal (of.2).head h.at.goal l.passes.head in (
          [],
          record {
            passes = record {
              it = of.0;
              is_part = of.1;
              pass = record {
                mapping = subst (λ (from : List ℕ). IsMapping c Two from facts) (sym (of.2).from) (mapping_stays values b c h.at Two (l.passes.it).from facts l.passes.pass.mapping);
                shown = conds_stay values b c h facts (l.passes.it).conds (of.0).conds (of.2).conds l.passes.pass.shown;
              };
              head = subst (λ (rs : List (List Term)). AllZip (AreTheSame c.known) (map (term_of rs) (of.0).head) (map Some c.goal)) (sym rows) heads;
            };
            cases_are = refl;
          },
          subst (λ (xs : List Branch). AllZip (Grows values) xs []) (sym l.cases_are) tt,
        )

    pub leads_on : (step new : Step) → StepAt values p g step new → Leads p b step cases → LeadsOn b c new cases
    leads_on (steps.Entry branch entry) new at l = subst (λ (it : Step). LeadsOn b c it cases) (sym at.2) (entry_on branch entry at.0 at.1 l)
    leads_on (steps.Key branch key left right) new at l = subst (λ (it : Step). LeadsOn b c it cases) (sym at) (key_on branch key left right l)
    leads_on (steps.Link branch link fact) new at l = subst (λ (it : Step). LeadsOn b c it cases) (sym at) (link_on branch link fact l)
    leads_on (steps.Rule branch rule part facts) new at l = subst (λ (it : Step). LeadsOn b c it cases) (sym at) (rule_on branch rule part facts l)
    leads_on (steps.View branch view part facts) new at l = subst (λ (it : Step). LeadsOn b c it cases) (sym at) (view_on branch view part facts l)
    leads_on (steps.Split branch atom) new at l = subst (λ (it : Step). LeadsOn b c it cases) (sym at) (split_on branch atom l)
    leads_on (steps.Absurd branch) new at l =
        subst (λ (it : Step). LeadsOn b c it cases) (sym at) (
          [],
          record { passes = absurd_follows b.known c.known (follows values b c h) l.passes; cases_are = refl },
          subst (λ (xs : List Branch). AllZip (Grows values) xs []) (sym l.cases_are) tt,
        )
    leads_on (steps.Goal branch part facts) new at l = subst (λ (it : Step). LeadsOn b c it cases) (sym at) (goal_on branch part facts l)

-- ---- what is open

abbrev pub SlotAt : List Value → Option Branch → Option Branch → Type 0
SlotAt values None None = Unit {0}
SlotAt values None (Some c) = ⊥
SlotAt values (Some b) None = ⊥
SlotAt values (Some b) (Some c) = Grows values b c

abbrev pub SlotsAt : List Value → Slots → Slots → Type 0
SlotsAt values old new = AllZip (SlotAt values) old new

slot_open : (values : List Value) (b : Branch) (slot : Option Branch) → SlotAt values (Some b) slot → (c : Branch) × (slot ≡ Some c) × Grows values b c
slot_open values b None h = absurd h
slot_open values b (Some c) h = (c, refl, h)

slot_closed : (values : List Value) (slot : Option Branch) → SlotAt values None slot → slot ≡ None
slot_closed values None h = refl
slot_closed values (Some c) h = absurd h

pub zip_set : {X Y : Type 0} (R : X → Y → Type 0) (xs : List X) (ys : List Y) (n : ℕ) (x : X) (y : Y) → AllZip R xs ys → R x y →
    AllZip R (slice_set xs n x) (slice_set ys n y)
zip_set R [] [] n x y h r = tt
zip_set R [] (v ∷ ys) n x y h r = absurd h
zip_set R (u ∷ xs) [] n x y h r = absurd h
zip_set R (u ∷ xs) (v ∷ ys) zero x y h r = (r, h.1)
zip_set R (u ∷ xs) (v ∷ ys) (suc n) x y h r = (h.0, zip_set R xs ys n x y h.1 r)

all_open : (values : List Value) (bs cs : List Branch) → AllZip (Grows values) bs cs → SlotsAt values (map Some bs) (map Some cs)
all_open values [] [] h = tt
all_open values [] (c ∷ cs) h = absurd h
all_open values (b ∷ bs) [] h = absurd h
all_open values (b ∷ bs) (c ∷ cs) h = (h.0, all_open values bs cs h.1)

after_at : (values : List Value) (old new : Slots) (n : ℕ) (cases its : List Branch) → SlotsAt values old new → AllZip (Grows values) cases its →
    SlotsAt values (after old n cases) (after new n its)
after_at values old new n [] [] h r = zip_set (SlotAt values) old new n None None h tt
after_at values old new n [] (c ∷ its) h r = absurd r
after_at values old new n (b ∷ cases) [] h r = absurd r
after_at values old new n (b ∷ cases) (c ∷ its) h r =
    zip_append (SlotAt values) (slice_set old n (Some b)) (map Some cases) (slice_set new n (Some c)) (map Some its)
    (zip_set (SlotAt values) old new n (Some b) (Some c) h r.0) (all_open values cases its r.1)

closed_at : (values : List Value) (old new : Slots) → SlotsAt values old new → AllClosed old → AllClosed new
closed_at values [] [] h closed = closed
closed_at values [] (y ∷ new) h closed = absurd h
closed_at values (x ∷ old) [] h closed = absurd h
closed_at values (x ∷ old) (y ∷ new) h closed =
    let here : x ≡ None = All-head (λ slot. slot ≡ None) x old closed in
    All-cons (λ slot. slot ≡ None) y new (slot_closed values y (subst (λ (o : Option Branch). SlotAt values o y) here h.0))
    (closed_at values old new h.1 (All-tail (λ slot. slot ≡ None) x old closed))

same_branch : (values : List Value) (p g : Problem) (step new : Step) → StepAt values p g step new → branch_of new ≡ branch_of step
same_branch values p g (steps.Entry branch entry) new at = ap branch_of at.2
same_branch values p g (steps.Key branch key left right) new at = ap branch_of at
same_branch values p g (steps.Link branch link fact) new at = ap branch_of at
same_branch values p g (steps.Rule branch rule part facts) new at = ap branch_of at
same_branch values p g (steps.View branch view part facts) new at = ap branch_of at
same_branch values p g (steps.Split branch atom) new at = ap branch_of at
same_branch values p g (steps.Absurd branch) new at = ap branch_of at
same_branch values p g (steps.Goal branch part facts) new at = ap branch_of at

-- the last of the one list is in step with the last of the other
zip_last : {X Y : Type 0} (R : X → Y → Type 0) (xs : List X) (x : X) (zs : List Y) → AllZip R (xs ++ x ∷ []) zs →
    (ys : List Y) × (y : Y) × (zs ≡ ys ++ y ∷ []) × AllZip R xs ys × R x y
zip_last R [] x [] h = absurd h
zip_last R [] x (z ∷ []) h = ([], z, refl, tt, h.0)
zip_last R [] x (z ∷ w ∷ zs) h = absurd h.1
zip_last R (u ∷ xs) x [] h = absurd h
zip_last R (u ∷ xs) x (z ∷ zs) h =
    let more = zip_last R xs x zs h.1 in (z ∷ more.0, more.1, ap (λ ws. z ∷ ws) more.2, (h.0, more.3), more.4)

-- What the first problem assumes stands, with variables, in what the second assumes, which has what the variables stand for too.
pub record AssumesAt (values : List Value) (xs ys : List Atom) : Type 0 where
  pub of : (ls : List Lesson) → map (lesson_of []) xs ≡ map Some ls → (ms : List Lesson) × (map (lesson_of []) ys ≡ map Some ms) × EachIs values ls ms × Fixes values ms

module _ (values : List Value) (p : Problem) (vars : List Kind) (assumed : List Atom) (entries : List ProblemEntry) (goal : Query)
    (goals : QueryAt values p.goal goal) (kinds : KindsStay p.vars vars) (assumes : AssumesAt values p.assumed assumed) where
  abbrev h : Problem
  h = record { policy = p.policy; vars = vars; assumed = assumed; entries = entries; goal = goal }

  takes_on : (old slots new : Slots) (step it : Step) → SlotsAt values old slots → StepAt values p h step it → Takes p old step new →
      (its : Slots) × Takes h slots it its × SlotsAt values new its
  takes_on old slots new step it at same t =
      let slot = zip_at (SlotAt values) old slots (branch_of step) (Some t.branch) at t.open_ in
      let mine = slot_open values t.branch slot.0 slot.2 in
      let cases = leads_on values p vars assumed entries goal goals t.branch mine.0 mine.2 t.cases step it same t.leads in
      let number = same_branch values p h step it same in
      let its : Slots = after slots (branch_of step) cases.0 in (
        its,
        record {
          branch = mine.0;
          open_ = ap (λ (n : ℕ). slice_get slots n) number ∙ (slot.1 ∙ ap Some mine.1);
          cases = cases.0;
          leads = cases.1;
          new_is = ap (λ (n : ℕ). after slots n cases.0) (sym number);
        },
        subst (λ (xs : Slots). SlotsAt values xs its) (sym t.new_is) (after_at values old slots (branch_of step) t.cases cases.0 at cases.2),
      )

  start_of_on : (x y : Part) (new : Branch) → PartAt values x y → IsStartOf p x new → (it : Branch) × IsStartOf h y it × Grows values new it
  start_of_on x y new at is =
      let s = p.policy.schema in
      let empty : BranchAt values (nothing_known p) (nothing_known h) =
      record { params = refl; vars = kinds; unknowns = refl; learned = each_none values []; facts = tt; goal = tt } in
      let old = with_facts s One 0 (nothing_known p) x.from in
      let mine = with_facts s One 0 (nothing_known h) x.from in
      let like : BranchAt values old mine = facts_like values s One 0 0 x.from (nothing_known p) (nothing_known h) empty in
      let rows = rows_at old (range_with_len 0 (length x.from)) in
      let same : rows_at (with_facts s One 0 (nothing_known h) y.from) (range_with_len 0 (length y.from)) ≡ rows =
      ap (λ (from : List ℕ). rows_at (with_facts s One 0 (nothing_known h) from) (range_with_len 0 (length from))) at.from ∙
      rows_stay values old mine like (range_with_len 0 (length x.from)) in
      let atoms = zip_given (AtomAt values) (LessonAt values) (lesson_of rows) (lesson_of rows) (atom_lesson values rows) x.conds y.conds is.atoms at.conds is.atoms_are in
      let heads = zip_given (OperandAt values) (TermAt values) (term_of rows) (term_of rows) (operand_term values rows) x.head y.head is.goal at.head is.goal_is in
      let more = assumes.of is.assumed is.assumed_are in
      let ls : List Lesson = is.atoms ++ is.assumed in
      let ms : List Lesson = atoms.0 ++ more.0 in
      let each : EachIs values ls ms = each_more values is.atoms atoms.0 is.assumed more.0 (each_zip values is.atoms atoms.0 atoms.2) more.2 in
      let learned = lessons_like values old mine like ls ms each in
      let one : Branch = record (with_lessons old ls) { goal = is.goal } in
      let it : List ℕ → Branch = λ from. record (with_lessons (with_facts s One 0 (nothing_known h) from) ms) { goal = heads.0 } in
      let grows : Grows values one (it x.from) = record {
        at = record {
          params = learned.params;
          vars = learned.vars;
          unknowns = learned.unknowns;
          learned = learned.learned;
          facts = learned.facts;
          goal = heads.2;
        };
        fixes = fixes_behind values mine.known.learned ms (fixes_behind values atoms.0 more.0 more.3);
      } in (
        it y.from,
        record {
          atoms = atoms.0;
          assumed = more.0;
          goal = heads.0;
          atoms_are = ap (λ (rs : List (List Term)). map (lesson_of rs) y.conds) same ∙ atoms.1;
          assumed_are = more.1;
          goal_is = ap (λ (rs : List (List Term)). map (term_of rs) y.head) same ∙ heads.1;
          new_is = refl;
        },
        subst (λ (b : Branch). Grows values b (it y.from)) (sym is.new_is) (subst (λ (from : List ℕ). Grows values one (it from)) (sym at.from) grows),
      )

  starts_on : (xs ys : List Part) (branches : List Branch) → AllZip (PartAt values) xs ys → AllZip (IsStartOf p) xs branches →
      (its : List Branch) × AllZip (IsStartOf h) ys its × AllZip (Grows values) branches its
  starts_on [] [] [] at are = ([], tt, tt)
  starts_on [] [] (b ∷ branches) at are = absurd are
  starts_on [] (y ∷ ys) branches at are = absurd at
  starts_on (x ∷ xs) [] branches at are = absurd at
  starts_on (x ∷ xs) (y ∷ ys) [] at are = absurd are
  starts_on (x ∷ xs) (y ∷ ys) (b ∷ branches) at are =
      let it = start_of_on x y b at.0 are.0 in
      let more = starts_on xs ys branches at.1 are.1 in
      (it.0 ∷ more.0, (it.1, more.1), (it.2, more.2))

  start_on : (slots : Slots) → IsStart p slots → (its : Slots) × IsStart h its × SlotsAt values slots its
  start_on slots is =
      let all = starts_on p.goal.parts goal.parts is.branches goals is.starts in (
        map Some all.0,
        record { branches = all.0; starts = all.1; slots_are = refl },
        subst (λ (xs : Slots). SlotsAt values xs (map Some all.0)) (sym is.slots_are) (all_open values is.branches all.0 all.2),
      )

  runs_on : {taken : List Step} {slots : Slots} → Runs p taken slots → (its : List Step) → AllZip (StepAt values p h) taken its →
      (left : Slots) × Runs h its left × SlotsAt values slots left
  runs_on {slots = slots} (Runs.start is) [] at = let it = start_on slots is in (it.0, Runs.start it.1, it.2)
  runs_on (Runs.start is) (step ∷ its) at = absurd at
  runs_on (Runs.next {taken} {step} {old} {new} runs takes) its at =
      let last = zip_last (StepAt values p h) taken step its at in
      let before = runs_on runs last.0 last.3 in
      let on = takes_on old before.0 new step last.1 before.2 last.4 takes in
      (on.0, subst (λ (xs : List Step). Runs h xs on.0) (sym last.2) (Runs.next before.1 on.1), on.2)

  pub closes_on : (taken its : List Step) → AllZip (StepAt values p h) taken its → Closes p taken → Closes h its
  closes_on taken its at c =
      let on = runs_on c.runs its at in record { slots = on.0; runs = on.1; closed = closed_at values c.slots on.0 on.2 c.closed }
