-- Branches that grow: what is known of an old one is known of the new one.
use Rattle.std.proofs.Common.{◌≡◌, ◌∙◌, ℕ, ◌+◌, List, [], ◌∷◌, ◌++◌, All, Contains, Option, Some, None, length, map, refl, sym, ap, ap₂, subst, append_assoc, ◌⊎◌, inl, inr}
use Rattle.std.proofs.lemmas.List.{length_push}
use Rattle.std.proofs.lemmas.List.Elements.{All-contains, Contains-append_left}
use Rattle.std.specs.List.{AllZip, range_with_len}
use Rattle.std.specs.Option.{option_map}
use Rattle.std.specs.Prelude.{slice_get, unwrap_or}
use Rattle.ba_comply.proofs.ComplyLemmas.{All-from_contains}
use Rattle.ba_facts.proofs.Elements.{get_append_old, get_push_new}
use Rattle.ba_facts.specs.Knowing.{sort_of}
use Rattle.ba_facts.specs.Laws.{kind_of_term}
use Rattle.ba_facts.specs.Matches.{IsFactOf, IsMapping, term_of, terms_at}
use Rattle.ba_facts.specs.declared.branch.Branch.{Branch}
use Rattle.ba_facts.specs.declared.term.Fact.{Fact}
use Rattle.ba_facts.specs.declared.term.Lesson.{Lesson}
use Rattle.ba_facts.specs.declared.term.Lesson.TheVariants.{Same, Holds}
use Rattle.ba_facts.specs.declared.term.Side.{Side}
use Rattle.ba_facts.specs.declared.term.Side.TheVariants.{One}
use Rattle.ba_facts.specs.declared.term.Sort.{Sort}
use Rattle.ba_facts.specs.declared.term.Term.{Term}
use Rattle.ba_facts.specs.declared.term.Term.TheVariants.{Unknown, Val, Param, Var}
use Rattle.ba_kernel.specs.Effects.{lesson_of, rows_at, with_fact, with_facts, with_lessons}
use Rattle.ba_kernel.specs.declared.problem.Problem.{Problem}
use Rattle.ba_model.specs.SchemaFaults.{columns_of}
use Rattle.ba_model.specs.declared.query.Atom.{Atom}
use Rattle.ba_model.specs.declared.query.Op.TheVariants.{Eq}
use Rattle.ba_model.specs.declared.query.Part.{Part}
use Rattle.ba_model.specs.declared.schema.Column.{Column}
use Rattle.ba_model.specs.declared.schema.Kind.{Kind}
use Rattle.ba_model.specs.declared.schema.Schema.{Schema}
use Rattle.ba_model.specs.declared.value.Value.TheVariants.{Null}

-- what the old branch has the new one has
pub record Grows (old new : Branch) : Type 0 where
  pub unknowns : (n : ℕ) (sort : Sort) → slice_get old.known.unknowns n ≡ Some sort → slice_get new.known.unknowns n ≡ Some sort
  pub params : new.params ≡ old.params
  pub vars : new.vars ≡ old.vars
  pub facts : (n : ℕ) (fact : Fact) → slice_get old.facts n ≡ Some fact → slice_get new.facts n ≡ Some fact
  pub learned : (lesson : Lesson) → Contains old.known.learned lesson → Contains new.known.learned lesson

pub grows_itself : (b : Branch) → Grows b b
grows_itself b = record { unknowns = λ n sort e. e; params = refl; vars = refl; facts = λ n fact e. e; learned = λ lesson h. h }

pub grows_on : (a b c : Branch) → Grows a b → Grows b c → Grows a c
grows_on a b c h g = record {
  unknowns = λ n sort e. g.unknowns n sort (h.unknowns n sort e);
  params = g.params ∙ h.params;
  vars = g.vars ∙ h.vars;
  facts = λ n fact e. g.facts n fact (h.facts n fact e);
  learned = λ lesson e. g.learned lesson (h.learned lesson e);
}

pub lessons_grow : (b : Branch) (lessons : List Lesson) → Grows b (with_lessons b lessons)
lessons_grow b lessons = record {
  unknowns = λ n sort e. e;
  params = refl;
  vars = refl;
  facts = λ n fact e. e;
  learned = λ lesson h. Contains-append_left b.known.learned lessons lesson h;
}

module _ (s : Schema) (side : Side) (round : ℕ) where
  pub fact_grows : (b : Branch) (table : ℕ) → Grows b (with_fact s side round b table)
  fact_grows b table = record {
    unknowns = λ n sort e. get_append_old b.known.unknowns (map sort_of (columns_of s.tables table)) n sort e;
    params = refl;
    vars = refl;
    facts = λ n fact e. get_append_old b.facts _ n fact e;
    learned = λ lesson h. h;
  }

  pub facts_grow : (from : List ℕ) (b : Branch) → Grows b (with_facts s side round b from)
  facts_grow [] b = grows_itself b
  facts_grow (table ∷ from) b =
      grows_on b (with_fact s side round b table) (with_facts s side round (with_fact s side round b table) from) (fact_grows b table) (facts_grow from (with_fact s side round b table))

  pub facts_goal : (from : List ℕ) (b : Branch) → (with_facts s side round b from).goal ≡ b.goal
  facts_goal [] b = refl
  facts_goal (table ∷ from) b = facts_goal from (with_fact s side round b table)

  -- the new facts are those of the tables
  pub new_mapping : (from : List ℕ) (b : Branch) → IsMapping (with_facts s side round b from) side from (range_with_len (length b.facts) (length from))
  new_mapping [] b = tt
  new_mapping (table ∷ from) b =
      let it : Fact = record { side = side; table = table; terms = map Unknown (range_with_len (length b.known.unknowns) (length (columns_of s.tables table))); round = round } in
      let all = with_facts s side round b (table ∷ from) in
      let there : slice_get all.facts (length b.facts) ≡ Some it = (facts_grow from (with_fact s side round b table)).facts (length b.facts) it (get_push_new b.facts it) in
      let first : IsFactOf all side table (length b.facts) = record { fact = it; there = there; side_is = refl; table_is = refl } in
      let rest = new_mapping from (with_fact s side round b table) in
      (first, subst (λ n. IsMapping all side from (range_with_len n (length from))) (length_push b.facts it) rest)

-- ---- kinds

kind_grows_to : (o : Option Sort) (n : Option Sort) (kind : Kind) → ((sort : Sort) → o ≡ Some sort → n ≡ Some sort) → option_map (λ (sort : Sort). sort.kind) o ≡ Some kind → option_map (λ (sort : Sort). sort.kind) n ≡ Some kind
kind_grows_to None n kind f e = cc
kind_grows_to (Some sort) n kind f e = ap (option_map (λ (sort : Sort). sort.kind)) (f sort refl) ∙ e

pub kind_grows : (old new : Branch) → Grows old new → (t : Term) (kind : Kind) → kind_of_term old t ≡ Some kind → kind_of_term new t ≡ Some kind
kind_grows old new h (Unknown n) kind e = kind_grows_to (slice_get old.known.unknowns n) (slice_get new.known.unknowns n) kind (h.unknowns n) e
kind_grows old new h (Val v) kind e = e
kind_grows old new h (Param n) kind e = subst (λ ks. slice_get ks n ≡ Some kind) (sym h.params) e
kind_grows old new h (Var n) kind e = subst (λ ks. slice_get ks n ≡ Some kind) (sym h.vars) e

-- both terms are of the kind, or the second is NULL
abbrev pub ArePaired : Branch → Kind → Term → Term → Type 0
ArePaired b kind t u = (kind_of_term b t ≡ Some kind) × ((kind_of_term b u ≡ Some kind) ⊎ (u ≡ Val Null))

pub record HasPair (b : Branch) (t u : Term) : Type 0 where
  pub kind : Kind
  pub pair : ArePaired b kind t u

-- a pair of one kind is the same, or an `=` of two terms of one kind holds
abbrev pub IsPlainLesson : Branch → Lesson → Type 0
IsPlainLesson b (Same t u) = HasPair b t u
IsPlainLesson b (Holds atom) = (atom.op ≡ Eq) × ((kind : Kind) × (kind_of_term b atom.left ≡ Some kind) × (kind_of_term b atom.right ≡ Some kind))

pub lesson_grows : (old new : Branch) → Grows old new → (lesson : Lesson) → IsPlainLesson old lesson → IsPlainLesson new lesson
lesson_grows old new h (Same t u) g = record { kind = g.kind; pair = (kind_grows old new h t g.kind (g.pair).0, at (g.pair).1) }
  where
    at : (kind_of_term old u ≡ Some g.kind) ⊎ (u ≡ Val Null) → (kind_of_term new u ≡ Some g.kind) ⊎ (u ≡ Val Null)
    at (inl e) = inl (kind_grows old new h u g.kind e)
    at (inr e) = inr e
lesson_grows old new h (Holds atom) g = (g.0, ((g.1).0, kind_grows old new h atom.left (g.1).0 (g.1).1, kind_grows old new h atom.right (g.1).0 (g.1).2))

-- ---- what was learned of facts

-- of the rows the atom was learned
pub record HasLearned (b : Branch) (rows : List (List Term)) (atom : Atom) : Type 0 where
  pub lesson : Lesson
  pub is : lesson_of rows atom ≡ Some lesson
  pub there : Contains b.known.learned lesson

pub learned_grows : (old new : Branch) → Grows old new → (rows : List (List Term)) (atom : Atom) → HasLearned old rows atom → HasLearned new rows atom
learned_grows old new h rows atom g = record { lesson = g.lesson; is = g.is; there = h.learned g.lesson g.there }

pub mapping_grows : (old new : Branch) → Grows old new → (side : Side) (from facts : List ℕ) → IsMapping old side from facts → IsMapping new side from facts
mapping_grows old new h side [] [] g = tt
mapping_grows old new h side [] (n ∷ facts) g = absurd g
mapping_grows old new h side (table ∷ from) [] g = absurd g
mapping_grows old new h side (table ∷ from) (n ∷ facts) g =
    (record { fact = (g.0).fact; there = h.facts n (g.0).fact (g.0).there; side_is = (g.0).side_is; table_is = (g.0).table_is }, mapping_grows old new h side from facts g.1)

fact_terms : (b : Branch) (n : ℕ) (fact : Fact) → slice_get b.facts n ≡ Some fact → terms_at b n ≡ fact.terms
fact_terms b n fact e = ap (λ o. unwrap_or (option_map (λ (it : Fact). it.terms) o) []) e

pub rows_grow : (old new : Branch) → Grows old new → (side : Side) (from facts : List ℕ) → IsMapping old side from facts → rows_at new facts ≡ rows_at old facts
rows_grow old new h side [] [] g = refl
rows_grow old new h side [] (n ∷ facts) g = absurd g
rows_grow old new h side (table ∷ from) [] g = absurd g
rows_grow old new h side (table ∷ from) (n ∷ facts) g =
    ap₂ (λ t ts. t ∷ ts) (fact_terms new n (g.0).fact (h.facts n (g.0).fact (g.0).there) ∙ sym (fact_terms old n (g.0).fact (g.0).there)) (rows_grow old new h side from facts g.1)

-- a part of the goal was learned of facts of side One, with the goal row for its head
pub record IsAsked (p : Problem) (b : Branch) : Type 0 where
  pub part : Part
  pub of : Contains p.goal.parts part
  pub facts : List ℕ
  pub mapping : IsMapping b One part.from facts
  pub goal : map (term_of (rows_at b facts)) part.head ≡ map Some b.goal
  pub conds : All (HasLearned b (rows_at b facts)) part.conds

pub asked_grows : (p : Problem) (old new : Branch) → Grows old new → new.goal ≡ old.goal → IsAsked p old → IsAsked p new
asked_grows p old new h same g =
    let rows = rows_grow old new h One g.part.from g.facts g.mapping in
    record {
      part = g.part;
      of = g.of;
      facts = g.facts;
      mapping = mapping_grows old new h One g.part.from g.facts g.mapping;
      goal = ap (λ ts. map (term_of ts) g.part.head) rows ∙ g.goal ∙ ap (map Some) (sym same);
      conds = All-from_contains (HasLearned new (rows_at new g.facts)) g.part.conds
          (λ atom there. learned_grows old new h (rows_at new g.facts) atom
          (subst (λ ts. HasLearned old ts atom) (sym rows) (All-contains (HasLearned old (rows_at old g.facts)) g.part.conds atom g.conds there)));
    }

-- the assumed atoms were learned
pub record IsAssumed (p : Problem) (b : Branch) : Type 0 where
  pub atoms : All (HasLearned b []) p.assumed

pub assumed_grows : (p : Problem) (old new : Branch) → Grows old new → IsAssumed p old → IsAssumed p new
assumed_grows p old new h g = record {
  atoms = All-from_contains (HasLearned new []) p.assumed (λ atom there. learned_grows old new h [] atom (All-contains (HasLearned old []) p.assumed atom g.atoms there));
}

-- ---- kinds of new unknowns

-- the unknowns have the columns' sorts
abbrev pub HaveSorts : List Sort → List Column → List Term → Type 0
HaveSorts unknowns columns ts = AllZip (λ (column : Column) t. (n : ℕ) × (t ≡ Unknown n) × (slice_get unknowns n ≡ Some (sort_of column))) columns ts

first_sort : (before : List Sort) (sort : Sort) (rest : List Sort) → slice_get (before ++ sort ∷ rest) (length before) ≡ Some sort
first_sort [] sort rest = refl
first_sort (x ∷ before) sort rest = first_sort before sort rest

pub new_sorts : (before : List Sort) (columns : List Column) → HaveSorts (before ++ map sort_of columns) columns (map Unknown (range_with_len (length before) (length columns)))
new_sorts before [] = tt
new_sorts before (column ∷ columns) =
    let more = before ++ sort_of column ∷ [] in
    let later : HaveSorts (more ++ map sort_of columns) columns (map Unknown (range_with_len (length more) (length columns))) = new_sorts more columns in
    let counted = subst (λ n. HaveSorts (more ++ map sort_of columns) columns (map Unknown (range_with_len n (length columns)))) (length_push before (sort_of column)) later in
    let rest = subst (λ us. HaveSorts us columns (map Unknown (range_with_len (length before + 1) (length columns)))) (append_assoc before (sort_of column ∷ []) (map sort_of columns)) counted in
    ((length before, refl, first_sort before (sort_of column) (map sort_of columns)), rest)

pub sorts_are_kinds : (b : Branch) (columns : List Column) (ts : List Term) → HaveSorts b.known.unknowns columns ts → AllZip (λ (column : Column) t. kind_of_term b t ≡ Some column.kind) columns ts
sorts_are_kinds b [] [] h = tt
sorts_are_kinds b [] (t ∷ ts) h = absurd h
sorts_are_kinds b (column ∷ columns) [] h = absurd h
sorts_are_kinds b (column ∷ columns) (t ∷ ts) h =
    (subst (λ x. kind_of_term b x ≡ Some column.kind) (sym (h.0).1) (ap (option_map (λ (sort : Sort). sort.kind)) (h.0).2), sorts_are_kinds b columns ts h.1)
