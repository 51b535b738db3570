-- Each open branch of a course without splits is plain, and knows what is asked and assumed.
use Rattle.std.proofs.Common.{◌≡◌, ◌∙◌, true, ℕ, ◌+◌, List, [], ◌∷◌, ◌++◌, All, Contains, Option, Some, None, length, map, refl, sym, ap, subst, ◌⊎◌, inl, inr}
use Rattle.std.proofs.lemmas.List.Elements.{All-append, All-cons, All-contains, All-head, All-map, All-nil, All-set, All-tail, All-weaker, Contains-append_left, Contains-append_right, Contains-push}
use Rattle.std.proofs.lemmas.Option.{same_Some}
use Rattle.std.specs.List.{AllZip, range_with_len, zip}
use Rattle.std.specs.Prelude.{slice_get, unwrap_or}
use Rattle.ba_comply.proofs.ComplyLemmas.{All-from_contains}
use Rattle.ba_facts.proofs.Elements.{get_push_new}
use Rattle.ba_facts.specs.Laws.{kind_of_term}
use Rattle.ba_facts.specs.Matches.{round_of, row_of, term_of, terms_at, IsMapping}
use Rattle.ba_facts.specs.declared.branch.Branch.{Branch}
use Rattle.ba_facts.specs.declared.term.Fact.{Fact}
use Rattle.ba_facts.specs.declared.term.Lesson.{Lesson}
use Rattle.ba_facts.specs.declared.term.Side.{Side}
use Rattle.ba_facts.specs.declared.term.Side.TheVariants.{One, Two}
use Rattle.ba_facts.specs.declared.term.Term.{Term}
use Rattle.ba_facts.specs.declared.term.Term.TheVariants as terms
use Rattle.ba_kernel.proofs.StepFits.{All-at, Contains-at}
use Rattle.ba_kernel.proofs.StepParts.{extends_itself, extends_nothing, part_stays}
use Rattle.ba_kernel.specs.Courses.{EntryFits, IsStartOf, LinkFits, ProblemFits, RowOperandFits, Runs, Slots, after, branch_of, next, nothing_known, start, start_facts}
use Rattle.ba_kernel.specs.Effects.{IsCase, lesson_of, rows_at, same_pair, with_fact, with_facts, with_lessons}
use Rattle.ba_kernel.specs.Steps.{Leads, LinkLeads}
use Rattle.ba_kernel.specs.declared.problem.Problem.{Problem}
use Rattle.ba_kernel.specs.declared.problem.ProblemEntry.{ProblemEntry}
use Rattle.ba_kernel.specs.declared.step.Step.{Step}
use Rattle.ba_kernel.specs.declared.step.Step.TheVariants as steps
use Rattle.ba_model.proofs.ElementLemmas.{Contains-head, Contains-later}
use Rattle.ba_model.specs.Equations.{AreEquations as EquationsAlone, IsOfEquations}
use Rattle.ba_model.specs.Fit.{IsQuery, PartFits, kind_of, kinds_of, AtomFits}
use Rattle.ba_model.specs.RuleFaults.{RuleFits}
use Rattle.ba_model.specs.SchemaFaults.{AreTables, columns_of, columns_or, kinds_match}
use Rattle.ba_model.specs.declared.policy.View.{View}
use Rattle.ba_model.specs.declared.query.Atom.{Atom}
use Rattle.ba_model.specs.declared.query.Operand.{Operand}
use Rattle.ba_model.specs.declared.query.Part.{Part}
use Rattle.ba_model.specs.declared.schema.Column.{Column}
use Rattle.ba_model.specs.declared.schema.Kind.{Kind}
use Rattle.ba_model.specs.declared.schema.Rule.{Rule}
use Rattle.ba_model.specs.declared.schema.Schema.{Schema}
use Rattle.ba_model.specs.declared.schema.Table.{Table}
use Rattle.ba_model.specs.declared.value.Value.TheVariants.{Null}
use Rattle.ba_refute.proofs.ConformLemmas.{FactIsSorted}
use Rattle.ba_refute.proofs.GrowLemmas.{Grows, HasLearned, IsAsked, IsAssumed, IsPlainLesson, asked_grows, assumed_grows, fact_grows, facts_goal, facts_grow, grows_on, kind_grows, lessons_grow, mapping_grows, new_mapping, rows_grow, lesson_grows}
use Rattle.ba_refute.proofs.PlainLemmas.{AreOfKinds, IsPlain, IsProblemOfEquations, atoms_plain, cases_plain, fact_plain, facts_plain, head_kinds, lessons_plain, linked_plain, mapped_sorted, operand_kind, pairs_plain, part_fits_on, zip_weaker, IsFilledSort, fact_grows_sorted}
use Rattle.ba_refute.proofs.SchemaLemmas.{link_kinds_are}
use Rattle.ba_refute.proofs.SplitLemmas.{IsNoSplit}
use Rattle.std.specs.Option.{option_map}
use Rattle.ba_facts.specs.Known.{Known}

-- it grows, with the same goal row
pub record GrowsFor (old new : Branch) : Type 0 where
  pub grows : Grows old new
  pub goal : new.goal ≡ old.goal

-- what an open branch of a course has
pub record IsKept (p : Problem) (b : Branch) : Type 0 where
  pub plain : IsPlain p b
  pub assumed : IsAssumed p b
  pub asked : IsAsked p b

kept_grows : (p : Problem) (old new : Branch) → IsKept p old → GrowsFor old new → IsPlain p new → IsKept p new
kept_grows p old new h g plain = record { plain = plain; assumed = assumed_grows p old new g.grows h.assumed; asked = asked_grows p old new g.grows g.goal h.asked }

all_kept : (p : Problem) (old : Branch) (cases : List Branch) → IsKept p old → All (GrowsFor old) cases → All (IsPlain p) cases → All (IsKept p) cases
all_kept p old [] h g plain = All-nil (IsKept p)
all_kept p old (new ∷ cases) h g plain =
    All-cons (IsKept p) new cases (kept_grows p old new h (All-head (GrowsFor old) new cases g) (All-head (IsPlain p) new cases plain))
    (all_kept p old cases h (All-tail (GrowsFor old) new cases g) (All-tail (IsPlain p) new cases plain))

-- ---- cases grow

module _ (s : Schema) (old : Branch) (side : Side) (round : ℕ) (row : List Term) where
  case_grows : (part : Part) (new : Branch) → IsCase s old side round row part new → GrowsFor old new
  case_grows part new case =
      let mid = with_facts s side round old part.from in
      subst (GrowsFor old) (sym case.new_is)
      (record {
        grows = grows_on old mid (with_lessons mid (case.atoms ++ case.heads)) (facts_grow s side round part.from old) (lessons_grow mid (case.atoms ++ case.heads));
        goal = facts_goal s side round part.from old;
      })

  cases_grow : (parts : List Part) (cases : List Branch) → AllZip (IsCase s old side round row) parts cases → All (GrowsFor old) cases
  cases_grow [] [] zip = All-nil (GrowsFor old)
  cases_grow [] (new ∷ cases) zip = absurd zip
  cases_grow (part ∷ parts) [] zip = absurd zip
  cases_grow (part ∷ parts) (new ∷ cases) zip = All-cons (GrowsFor old) new cases (case_grows part new zip.0) (cases_grow parts cases zip.1)

one_all : {X : Type 0} (P : X → Type 0) (xs : List X) (x : X) → xs ≡ x ∷ [] → P x → All P xs
one_all P xs x e h = subst (All P) (sym e) (All-cons P x [] h (All-nil P))

none_all : {X : Type 0} (P : X → Type 0) (xs : List X) → xs ≡ [] → All P xs
none_all P xs e = subst (All P) (sym e) (All-nil P)

module _ (p : Problem) (fits : ProblemFits p) (tables : AreTables p.policy.schema.tables) (of : IsProblemOfEquations p) where
  abbrev s : Schema
  s = p.policy.schema

  abbrev FitsHere : List Kind → Part → Type 0
  FitsHere kinds part = PartFits s (kinds_of p.policy.params) p.vars kinds part

  -- ---- rows of entries, rules and views

  entry_kinds : (b : Branch) → IsPlain p b → (kinds : List Kind) (operands : List Operand) (row : List Term) → AllZip (RowOperandFits p) kinds operands →
      map (term_of []) operands ≡ map Some row → AreOfKinds s b kinds row
  entry_kinds b h [] [] [] fit e = tt
  entry_kinds b h [] [] (t ∷ row) fit e = cc
  entry_kinds b h [] (x ∷ operands) row fit e = absurd fit
  entry_kinds b h (kind ∷ kinds) [] row fit e = absurd fit
  entry_kinds b h (kind ∷ kinds) (x ∷ operands) [] fit e = cc
  entry_kinds b h (kind ∷ kinds) (x ∷ operands) (t ∷ row) fit e =
      let first : term_of [] x ≡ Some t = cc in
      let rest : map (term_of []) operands ≡ map Some row = cc in
      (at fit.0 first, entry_kinds b h kinds operands row fit.1 rest)
    where
      at : RowOperandFits p kind x → term_of [] x ≡ Some t → (kind_of_term b t ≡ Some kind) ⊎ (t ≡ terms.Val Null)
      at (inl is) f = inr (sym (same_Some (terms.Val Null) t (subst (λ y. term_of [] y ≡ Some t) is f)))
      at (inr is) f =
          let own : kind_of s b.params b.vars [] x ≡ Some kind =
          subst (λ ps. kind_of s ps b.vars [] x ≡ Some kind) (sym h.params) (subst (λ vs. kind_of s (kinds_of p.policy.params) vs [] x ≡ Some kind) (sym h.vars) is) in
          inl (operand_kind s b [] [] x kind t tt own f)

  given_kinds : (b : Branch) (side : Side) (kinds : List Kind) (part : Part) (facts : List ℕ) (row : List Term) → IsPlain p b → FitsHere kinds part →
      IsMapping b side part.from facts → row_of b facts part.head ≡ map Some row → AreOfKinds s b kinds row
  given_kinds b side kinds part facts row h fit mapping e =
      head_kinds s b part.from (rows_at b facts) part.head kinds row (mapped_sorted s b side part.from facts h.facts mapping) (part_fits_on p of.filled b kinds part h fit).head e

  rule_parts : (rule : Rule) (kinds : List Kind) (parts : List Part) → All (PartFits s [] [] kinds) parts → All (FitsHere kinds) parts
  rule_parts rule kinds parts h =
      All-weaker (PartFits s [] [] kinds) (FitsHere kinds)
      (part_stays s [] [] (kinds_of p.policy.params) p.vars (extends_nothing (kinds_of p.policy.params)) (extends_nothing p.vars) kinds) parts h

  view_parts : (kinds : List Kind) (parts : List Part) → All (PartFits s (kinds_of p.policy.params) [] kinds) parts → All (FitsHere kinds) parts
  view_parts kinds parts h =
      All-weaker (PartFits s (kinds_of p.policy.params) [] kinds) (FitsHere kinds)
      (part_stays s (kinds_of p.policy.params) [] (kinds_of p.policy.params) p.vars (extends_itself (kinds_of p.policy.params)) (extends_nothing p.vars) kinds) parts h

  -- ---- links

  link_plain : (b : Branch) (link fact : ℕ) (cases : List Branch) (leads : LinkLeads p b link fact cases) → IsPlain p b →
      IsPlain p (with_lessons (with_fact s leads.passes.f.side (1 + leads.passes.f.round) b leads.passes.it.target) leads.lessons)
  link_plain b link fact cases leads h =
      let f = leads.passes.f in
      let it = leads.passes.it in
      let table = leads.passes.link_of.table in
      let round = 1 + f.round in
      let fit = All-at (LinkFits s) table.links link it (All-at (λ (t : Table). All (LinkFits s) t.links) s.tables f.table table fits.links leads.passes.link_of.table_is) leads.passes.link_of.link_is in
      let mid = with_fact s f.side round b it.target in
      let mid_plain = fact_plain p of.filled f.side round b it.target fit.target fit.target_is h in
      let new : Fact = record { side = f.side; table = it.target; terms = map terms.Unknown (range_with_len (length b.known.unknowns) (length (columns_of s.tables it.target))); round = round } in
      let new_at : slice_get mid.facts (length b.facts) ≡ Some new = get_push_new b.facts new in
      let new_sorted = All-at (FactIsSorted s mid) mid.facts (length b.facts) new mid_plain.facts new_at in
      let own = All-at (FactIsSorted s b) b.facts fact f h.facts leads.passes.fact_is in
      let table_same : own.table ≡ table = same_Some own.table table (sym own.table_is ∙ leads.passes.link_of.table_is) in
      let target_same : new_sorted.table ≡ fit.target = same_Some new_sorted.table fit.target (sym new_sorted.table_is ∙ fit.target_is) in
      let columns_are : columns_of s.tables it.target ≡ (fit.target).columns = ap columns_or fit.target_is in
      let matches : kinds_match table.columns (fit.target).columns it.columns it.target_columns ≡ true =
      subst (λ cs. kinds_match table.columns cs it.columns it.target_columns ≡ true) columns_are
      (link_kinds_are s tables table f.table leads.passes.link_of.table_is it (Contains-at table.links link it leads.passes.link_of.link_is)) in
      let left : AllZip (λ (column : Column) t. kind_of_term mid t ≡ Some column.kind) table.columns f.terms =
      zip_weaker (λ (column : Column) t. kind_of_term b t ≡ Some column.kind) (λ (column : Column) t. kind_of_term mid t ≡ Some column.kind)
      (λ column t e. kind_grows b mid (fact_grows s f.side round b it.target) t column.kind e) table.columns f.terms
      (subst (λ (t : Table). AllZip (λ (column : Column) t. kind_of_term b t ≡ Some column.kind) t.columns f.terms) table_same own.terms) in
      let at : terms_at mid (length b.facts) ≡ new.terms =
      ap (λ o. unwrap_or (option_map (λ (x : Fact). x.terms) o) []) new_at in
      let right : AllZip (λ (column : Column) t. kind_of_term mid t ≡ Some column.kind) (fit.target).columns (terms_at mid (length b.facts)) =
      subst (AllZip (λ (column : Column) t. kind_of_term mid t ≡ Some column.kind) (fit.target).columns) (sym at)
      (subst (λ (t : Table). AllZip (λ (column : Column) t. kind_of_term mid t ≡ Some column.kind) t.columns new.terms) target_same new_sorted.terms) in
      lessons_plain p of.filled mid leads.lessons mid_plain
      (linked_plain p of.filled mid table.columns (fit.target).columns f.terms (terms_at mid (length b.facts)) it.columns it.target_columns leads.lessons left right matches leads.lessons_are)

  -- ---- steps

  leads_kept : (b : Branch) (step : Step) (cases : List Branch) → IsKept p b → IsNoSplit step → Leads p b step cases → All (IsKept p) cases
  leads_kept b (steps.Entry branch entry) cases h whole leads =
      let it = leads.passes.it in
      let fit = All-at (EntryFits p) p.entries entry it fits.entries leads.passes.there in
      let equations = All-at (λ (e : ProblemEntry). IsOfEquations e.query) p.entries entry it of.entries leads.passes.there in
      all_kept p b cases h (cases_grow s b One leads.round leads.row it.query.parts cases leads.cases_are)
      (cases_plain p of.filled b One leads.round fit.query.fits.kinds leads.row it.query.parts cases h.plain fit.query.fits.parts equations
      (entry_kinds b h.plain fit.query.fits.kinds it.row leads.row fit.row leads.row_is) leads.cases_are)
  leads_kept b (steps.Key branch key left right) cases h whole leads =
      let f = leads.passes.f in
      let g = leads.passes.g in
      let lessons = map same_pair (zip f.terms g.terms) in
      let f_sorted = All-at (FactIsSorted s b) b.facts left f h.plain.facts leads.passes.pair.left_is in
      let g_sorted = All-at (FactIsSorted s b) b.facts right g h.plain.facts leads.passes.pair.right_is in
      let g_table : slice_get s.tables f.table ≡ Some g_sorted.table = subst (λ n. slice_get s.tables n ≡ Some g_sorted.table) leads.passes.pair.table g_sorted.table_is in
      let same : g_sorted.table ≡ f_sorted.table = same_Some g_sorted.table f_sorted.table (sym g_table ∙ f_sorted.table_is) in
      let others = subst (λ (t : Table). AllZip (λ (column : Column) t. kind_of_term b t ≡ Some column.kind) t.columns g.terms) same g_sorted.terms in
      one_all (IsKept p) cases (with_lessons b lessons) leads.cases_are
      (kept_grows p b (with_lessons b lessons) h (record { grows = lessons_grow b lessons; goal = refl })
      (lessons_plain p of.filled b lessons h.plain (pairs_plain p of.filled b (f_sorted.table).columns f.terms g.terms f_sorted.terms others)))
  leads_kept b (steps.Link branch link fact) cases h whole leads =
      let mid = with_fact s leads.passes.f.side (1 + leads.passes.f.round) b leads.passes.it.target in
      let new = with_lessons mid leads.lessons in
      one_all (IsKept p) cases new leads.cases_are
      (kept_grows p b new h
      (record {
        grows = grows_on b mid new (fact_grows s leads.passes.f.side (1 + leads.passes.f.round) b leads.passes.it.target) (lessons_grow mid leads.lessons);
        goal = refl;
      })
      (link_plain b link fact cases leads h.plain))
  leads_kept b (steps.Rule branch rule part facts) cases h whole leads =
      let it = leads.passes.is_part.of in
      let fit = All-at (RuleFits s) s.rules rule it fits.rules leads.passes.is_part.rule_is in
      let equations = All-at (λ (r : Rule). IsOfEquations r.right) s.rules rule it of.rules leads.passes.is_part.rule_is in
      let left_fit = All-at (FitsHere fit.left.fits.kinds) it.left.parts part leads.passes.it (rule_parts it fit.left.fits.kinds it.left.parts fit.left.fits.parts) leads.passes.is_part.part_is in
      let left_kinds = given_kinds b leads.passes.side fit.left.fits.kinds leads.passes.it facts leads.next.row h.plain left_fit leads.passes.pass.mapping leads.next.row_is in
      all_kept p b cases h (cases_grow s b leads.passes.side (1 + round_of b facts) leads.next.row it.right.parts cases leads.next.cases_are)
      (cases_plain p of.filled b leads.passes.side (1 + round_of b facts) fit.right.fits.kinds leads.next.row it.right.parts cases h.plain
      (rule_parts it fit.right.fits.kinds it.right.parts fit.right.fits.parts) equations (subst (λ ks. AreOfKinds s b ks leads.next.row) (sym fit.kinds) left_kinds) leads.next.cases_are)
  leads_kept b (steps.View branch view part facts) cases h whole leads =
      let it = leads.passes.is_part.of in
      let fit = All-at (λ (v : View). IsQuery s (kinds_of p.policy.params) [] v.query) p.policy.views view it (fits.policy).views leads.passes.is_part.view_is in
      let equations = All-at (λ (v : View). IsOfEquations v.query) p.policy.views view it of.views leads.passes.is_part.view_is in
      let parts = view_parts fit.fits.kinds it.query.parts fit.fits.parts in
      let own_fit = All-at (FitsHere fit.fits.kinds) it.query.parts part leads.passes.it parts leads.passes.is_part.part_is in
      let kinds = given_kinds b One fit.fits.kinds leads.passes.it facts leads.next.row h.plain own_fit leads.passes.pass.mapping leads.next.row_is in
      all_kept p b cases h (cases_grow s b Two (1 + round_of b facts) leads.next.row it.query.parts cases leads.next.cases_are)
      (cases_plain p of.filled b Two (1 + round_of b facts) fit.fits.kinds leads.next.row it.query.parts cases h.plain parts equations kinds leads.next.cases_are)
  leads_kept b (steps.Split branch atom) cases h whole leads = absurd whole
  leads_kept b (steps.Absurd branch) cases h whole leads = none_all (IsKept p) cases leads.cases_are
  leads_kept b (steps.Goal branch part facts) cases h whole leads = none_all (IsKept p) cases leads.cases_are

  -- ---- starts

  nothing_plain : IsPlain p (nothing_known p)
  nothing_plain = record {
    filled = All-nil IsFilledSort;
    facts = All-nil (FactIsSorted s (nothing_known p));
    lessons = All-nil (IsPlainLesson (nothing_known p));
    params = refl;
    vars = refl;
  }

  -- each atom has its lesson among these
  all_learned : (b : Branch) (rows : List (List Term)) (conds : List Atom) (lessons : List Lesson) → map (lesson_of rows) conds ≡ map Some lessons →
      ((lesson : Lesson) → Contains lessons lesson → Contains b.known.learned lesson) → All (HasLearned b rows) conds
  all_learned b rows [] lessons e f = All-nil (HasLearned b rows)
  all_learned b rows (atom ∷ conds) [] e f = cc
  all_learned b rows (atom ∷ conds) (lesson ∷ lessons) e f =
      let first : lesson_of rows atom ≡ Some lesson = cc in
      let rest : map (lesson_of rows) conds ≡ map Some lessons = cc in
      All-cons (HasLearned b rows) atom conds (record { lesson = lesson; is = first; there = f lesson (Contains-head lesson lessons) })
      (all_learned b rows conds lessons rest (λ other h. f other (Contains-later lesson lessons other h)))

  start_kept : (part : Part) (new : Branch) → Contains p.goal.parts part → FitsHere fits.goal.fits.kinds part → EquationsAlone part.conds → IsStartOf p part new → IsKept p new
  start_kept part new there fit equations h =
      let mid = start_facts p part in
      let lessons = h.atoms ++ h.assumed in
      let numbers = range_with_len 0 (length part.from) in
      let learned = with_lessons mid lessons in
      let last : Branch = record learned { goal = h.goal } in
      let mid_plain = facts_plain p of.filled One 0 part.from (nothing_known p) fit.tables nothing_plain in
      let mapping = new_mapping s One 0 part.from (nothing_known p) in
      let on = part_fits_on p of.filled mid fits.goal.fits.kinds part mid_plain fit in
      let sorted = mapped_sorted s mid One part.from numbers mid_plain.facts mapping in
      let atoms = atoms_plain s mid part.from (rows_at mid numbers) part.conds h.atoms sorted on.conds equations h.atoms_are in
      let assumed = atoms_plain s mid [] [] p.assumed h.assumed tt
      (subst (λ ps. All (AtomFits s ps mid.vars []) p.assumed) (sym mid_plain.params)
      (subst (λ vs. All (AtomFits s (kinds_of p.policy.params) vs []) p.assumed) (sym mid_plain.vars) fits.assumed)) of.assumed h.assumed_are in
      let plain = lessons_plain p of.filled mid lessons mid_plain (All-append (IsPlainLesson mid) h.atoms h.assumed atoms assumed) in
      let grows : Grows learned last = record { unknowns = λ n sort e. e; params = refl; vars = refl; facts = λ n fact e. e; learned = λ lesson e. e } in
      let grown : Grows mid last = grows_on mid learned last (lessons_grow mid lessons) grows in
      let rows : rows_at last numbers ≡ rows_at mid numbers = rows_grow mid last grown One part.from numbers mapping in
      let in_last : (lesson : Lesson) → Contains lessons lesson → Contains last.known.learned lesson = λ lesson g. Contains-append_right mid.known.learned lessons lesson g in
      subst (IsKept p) (sym h.new_is)
      (record {
        plain = plain_grows learned last grows refl refl plain;
        assumed = record { atoms = all_learned last [] p.assumed h.assumed h.assumed_are (λ lesson g. in_last lesson (Contains-append_right h.atoms h.assumed lesson g)) };
        asked = record {
          part = part;
          of = there;
          facts = numbers;
          mapping = mapping_grows mid last grown One part.from numbers mapping;
          goal = ap (λ ts. map (term_of ts) part.head) rows ∙ h.goal_is;
          conds = subst (λ ts. All (HasLearned last ts) part.conds) (sym rows)
              (all_learned last (rows_at mid numbers) part.conds h.atoms h.atoms_are (λ lesson g. in_last lesson (Contains-append_left h.atoms h.assumed lesson g)));
        };
      })
    where
      plain_grows : (old new : Branch) → Grows old new → new.known ≡ old.known → new.facts ≡ old.facts → IsPlain p old → IsPlain p new
      plain_grows old new g same facts h = record {
        filled = subst (λ (k : Known). All IsFilledSort k.unknowns) (sym same) h.filled;
        facts = subst (All (FactIsSorted s new)) (sym facts)
            (All-weaker (FactIsSorted s old) (FactIsSorted s new) (fact_grows_sorted s old new g) old.facts h.facts);
        lessons = subst (λ (k : Known). All (IsPlainLesson new) k.learned) (sym same)
            (All-weaker (IsPlainLesson old) (IsPlainLesson new) (lesson_grows old new g) old.known.learned h.lessons);
        params = g.params ∙ h.params;
        vars = g.vars ∙ h.vars;
      }

  starts_kept : (parts : List Part) (branches : List Branch) → ((part : Part) → Contains parts part → Contains p.goal.parts part) → All (FitsHere fits.goal.fits.kinds) parts →
      All (λ (part : Part). EquationsAlone part.conds) parts → AllZip (IsStartOf p) parts branches → All (IsKept p) branches
  starts_kept [] [] among fit equations h = All-nil (IsKept p)
  starts_kept [] (b ∷ branches) among fit equations h = absurd h
  starts_kept (part ∷ parts) [] among fit equations h = absurd h
  starts_kept (part ∷ parts) (b ∷ branches) among fit equations h =
      All-cons (IsKept p) b branches
      (start_kept part b (among part (Contains-head part parts)) (All-head (FitsHere fits.goal.fits.kinds) part parts fit) (All-head (λ (part : Part). EquationsAlone part.conds) part parts equations) h.0)
      (starts_kept parts branches (λ other g. among other (Contains-later part parts other g)) (All-tail (FitsHere fits.goal.fits.kinds) part parts fit)
      (All-tail (λ (part : Part). EquationsAlone part.conds) part parts equations) h.1)

  -- ---- courses

  abbrev SlotIsKept : Option Branch → Type 0
  SlotIsKept None = Unit {0}
  SlotIsKept (Some b) = IsKept p b

  after_kept : (slots : Slots) (n : ℕ) (cases : List Branch) → All SlotIsKept slots → All (IsKept p) cases → All SlotIsKept (after slots n cases)
  after_kept slots n [] all h = All-set SlotIsKept slots n None tt all
  after_kept slots n (b ∷ others) all h =
      All-append SlotIsKept _ (map Some others) (All-set SlotIsKept slots n (Some b) (All-head (IsKept p) b others h) all)
      (All-map SlotIsKept Some others (All-tail (IsKept p) b others h))

  runs_kept : {taken : List Step} {slots : Slots} → Runs p taken slots → All IsNoSplit taken → All SlotIsKept slots
  runs_kept (start {slots = slots} h) whole =
      subst (All SlotIsKept) (sym h.slots_are) (All-map SlotIsKept Some h.branches (starts_kept p.goal.parts h.branches (λ part g. g) fits.goal.fits.parts of.goal h.starts))
  runs_kept (next {taken = taken} {step = step} {old = old} {new = new} runs takes) whole =
      let front = All-from_contains IsNoSplit taken (λ x g. All-contains IsNoSplit (taken ++ step ∷ []) x whole (Contains-append_left taken (step ∷ []) x g)) in
      let last = All-contains IsNoSplit (taken ++ step ∷ []) step whole (Contains-push taken step) in
      let before = runs_kept runs front in
      let kept = All-at SlotIsKept old (branch_of step) (Some takes.branch) before takes.open_ in
      subst (All SlotIsKept) (sym takes.new_is) (after_kept old (branch_of step) takes.cases before (leads_kept takes.branch step takes.cases kept last takes.leads))

  pub open_kept : (taken : List Step) (slots : Slots) (n : ℕ) (b : Branch) → Runs p taken slots → All IsNoSplit taken → slice_get slots n ≡ Some (Some b) → IsKept p b
  open_kept taken slots n b runs whole is_open = All-at SlotIsKept slots n (Some b) (runs_kept runs whole) is_open
