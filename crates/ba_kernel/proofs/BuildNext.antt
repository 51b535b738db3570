-- What the cases of a row need: its terms are there, and the parts have its width.
use Rattle.std.proofs.Common.{◌≡◌, ℕ, ◌+◌, List, [], ◌∷◌, inl, inr, length, map, refl, ap, sym, ◌∙◌, subst}
use Rattle.std.proofs.lemmas.List.{length-map}
use Rattle.std.proofs.lemmas.List.Elements.{All-cons, All-nil, All-weaker}
use Rattle.std.proofs.lemmas.Option.{same_Some}
use Rattle.std.specs.List.{All, AllZip}
use Rattle.std.specs.Prelude.{Option, Some, slice_get}
use Rattle.ba_model.specs.Fit.{IsQuery, PartFits, QueryFits, kind_of, kinds_of}
use Rattle.ba_model.specs.declared.policy.View.{View}
use Rattle.ba_model.specs.declared.query.Operand.{Operand}
use Rattle.ba_model.specs.declared.query.Operand.TheVariants.{Col, Val, Param, Var}
use Rattle.ba_model.specs.declared.query.Part.{Part}
use Rattle.ba_model.specs.declared.query.Query.{Query}
use Rattle.ba_model.specs.declared.schema.Kind.{Kind}
use Rattle.ba_model.specs.declared.schema.Schema.{Schema}
use Rattle.ba_model.specs.SchemaFaults.{columns_of, columns_or}
use Rattle.ba_kernel.proofs.CaseFactLemmas.{zip_length}
use Rattle.ba_kernel.proofs.StepFits.{All-at}
use Rattle.ba_kernel.proofs.TidyLemmas.{have_terms, term_there}
use Rattle.ba_kernel.specs.Courses.{EntryFits, ProblemFits, RowOperandFits}
use Rattle.ba_kernel.specs.Effects.{AreNext, IsCase, IsEntryRound, rows_at}
use Rattle.ba_kernel.specs.Steps.{EntryLeads, FactsPass, ViewLeads, ViewPasses}
use Rattle.ba_kernel.specs.SearchStates.{FactIsTidy, IsTidy}
use Rattle.ba_kernel.specs.Tidy.{AreAsWide, FactsAreThere, HasTerm, IsAsWide, IsPartFor, IsReady, TermsAreThere}
use Rattle.ba_facts.specs.Knowing.{IsThere}
use Rattle.ba_facts.specs.Matches.{IsFactOf, IsMapping, round_of, row_of, term_of, terms_at}
use Rattle.ba_facts.specs.declared.branch.Branch.{Branch}
use Rattle.ba_kernel.specs.declared.problem.Problem.{Problem}
use Rattle.ba_kernel.specs.declared.problem.ProblemEntry.{ProblemEntry}
use Rattle.ba_facts.specs.declared.term.Fact.{Fact}
use Rattle.ba_facts.specs.declared.term.Side.{Side}
use Rattle.ba_facts.specs.declared.term.Side.TheVariants.{One, Two}
use Rattle.ba_facts.specs.declared.term.Term.{Term}
use Rattle.ba_facts.specs.declared.term.Term.TheVariants as terms

-- ---- rows

pub tidy_there : (p : Problem) (b : Branch) → IsTidy p b → FactsAreThere b
tidy_there p b h =
    record {
      facts = All-weaker (FactIsTidy p.policy.schema b.known) (λ (fact : Fact). TermsAreThere b.known fact.terms) (λ fact it. it.there) b.facts h.facts;
    }

pub same_count : {X Y : Type 0} (f : X → Option Y) (xs : List X) (ys : List Y) → map f xs ≡ map Some ys → length xs ≡ length ys
same_count f xs ys e = sym (length-map xs f) ∙ (ap length e ∙ length-map ys Some)

pub row_there : (b : Branch) (facts : List ℕ) (head : List Operand) (row : List Term) → FactsAreThere b → row_of b facts head ≡ map Some row → TermsAreThere b.known row
row_there b facts [] [] h e = All-nil (IsThere b.known)
row_there b facts [] (t ∷ row) h e = cc
row_there b facts (x ∷ head) [] h e = cc
row_there b facts (x ∷ head) (t ∷ row) h e =
    let first : term_of (rows_at b facts) x ≡ Some t = cc in
    let rest : row_of b facts head ≡ map Some row = cc in
    All-cons (IsThere b.known) t row (term_there b facts x t h first) (row_there b facts head row h rest)

pub ready : (b : Branch) (facts : List ℕ) (head : List Operand) (row : List Term) → FactsAreThere b → row_of b facts head ≡ map Some row → IsReady b row
ready b facts head row h e = record { facts = h; terms = row_there b facts head row h e }

pub ready_as : (b : Branch) (facts : List ℕ) (head : List Operand) (items row : List Term) → FactsAreThere b → row_of b facts head ≡ map Some items → row ≡ items → IsReady b row
ready_as b facts head items row h e same = subst (IsReady b) (sym same) (ready b facts head items h e)

module _ (b : Branch) (facts : List ℕ) (head operands : List Operand) (items row : List Term) (same : operands ≡ head) (e : row_of b facts operands ≡ map Some items)
    (row_is : row ≡ items) where
  pub head_gives : row_of b facts head ≡ map Some row
  head_gives = subst (λ xs. row_of b facts xs ≡ map Some row) same (e ∙ ap (map Some) (sym row_is))

  pub fits_row : (s : Schema) (parts : List Part) → All (IsPartFor s (length head)) parts → All (IsPartFor s (length row)) parts
  fits_row s parts h = subst (λ n. All (IsPartFor s n) parts) (same_count (term_of (rows_at b facts)) head row head_gives) h

pub next_is : (s : Schema) (b : Branch) (side : Side) (round : ℕ) (part : Part) (facts : List ℕ) (row : List Term) (parts : List Part) (cases : List Branch) →
    row_of b facts part.head ≡ map Some row → round ≡ 1 + round_of b facts → AllZip (IsCase s b side round row) parts cases → AreNext s b side part facts parts cases
next_is s b side round part facts row parts cases gives round_is h =
    record { row = row; row_is = gives; cases_are = subst (λ n. AllZip (IsCase s b side n row) parts cases) round_is h }

-- the parts of a query that fits have the width of its kinds
pub parts_for : (s : Schema) (params vars : List Kind) (q : Query) (fits : QueryFits s params vars q) (width : ℕ) → length fits.kinds ≡ width → All (IsPartFor s width) q.parts
parts_for s params vars q fits width same =
    All-weaker (PartFits s params vars fits.kinds) (IsPartFor s width)
    (λ part it.
    record {
      params = params;
      vars = vars;
      kinds = fits.kinds;
      fits = it;
      wide = same_count (kind_of s params vars part.from) part.head fits.kinds it.head ∙ same;
    })
    q.parts fits.parts

-- ---- entries

module _ (p : Problem) (entry : ℕ) (it : ProblemEntry) (fits : ProblemFits p) (there : slice_get p.entries entry ≡ Some it) where
  entry_fits : EntryFits p it
  entry_fits = All-at (EntryFits p) p.entries entry it fits.entries there

  fixed_term : (kind : Kind) (x : Operand) → RowOperandFits p kind x → HasTerm [] x
  fixed_term kind (Col place column) (inl e) = cc
  fixed_term kind (Col place column) (inr e) = cc
  fixed_term kind (Val v) h = record { term = terms.Val v; is = refl }
  fixed_term kind (Param n) h = record { term = terms.Param n; is = refl }
  fixed_term kind (Var n) h = record { term = terms.Var n; is = refl }

  fixed_terms : (kinds : List Kind) (row : List Operand) → AllZip (RowOperandFits p) kinds row → All (HasTerm []) row
  fixed_terms [] [] h = All-nil (HasTerm [])
  fixed_terms [] (x ∷ row) h = absurd h
  fixed_terms (kind ∷ kinds) [] h = absurd h
  fixed_terms (kind ∷ kinds) (x ∷ row) h = All-cons (HasTerm []) x row (fixed_term kind x h.0) (fixed_terms kinds row h.1)

  pub entry_terms : All (HasTerm []) it.row
  entry_terms = fixed_terms entry_fits.query.fits.kinds it.row entry_fits.row

  pub entry_parts : (row : List Term) → map (term_of []) it.row ≡ map Some row → All (IsPartFor p.policy.schema (length row)) it.query.parts
  entry_parts row e =
      parts_for p.policy.schema (kinds_of p.policy.params) p.vars it.query entry_fits.query.fits (length row)
      (zip_length (RowOperandFits p) entry_fits.query.fits.kinds it.row entry_fits.row ∙ same_count (term_of []) it.row row e)

  pub entry_leads : (b : Branch) (operands : List Operand) (items row : List Term) (round : ℕ) (parts : List Part) (cases : List Branch) → operands ≡ it.row →
      row_of b [] operands ≡ map Some items → row ≡ items → IsEntryRound p operands round → parts ≡ it.query.parts →
      AllZip (IsCase p.policy.schema b One round row) parts cases → EntryLeads p b entry cases
  entry_leads b operands items row round parts cases same e row_is round_is parts_are h =
      record {
        passes = record { it = it; there = there };
        row = row;
        row_is = head_gives b [] it.row operands items row same e row_is;
        round = round;
        round_is = subst (λ xs. IsEntryRound p xs round) same round_is;
        cases_are = subst (λ ps. AllZip (IsCase p.policy.schema b One round row) ps cases) parts_are h;
      }

-- ---- facts of a part

fact_wide : (s : Schema) (b : Branch) (side : Side) (table n : ℕ) → All (FactIsTidy s b.known) b.facts → IsFactOf b side table n → IsAsWide s table (terms_at b n)
fact_wide s b side table n tidy h =
    let it = All-at (FactIsTidy s b.known) b.facts n h.fact tidy h.there in
    let terms_are : terms_at b n ≡ h.fact.terms = cc (h.there) in
    let table_is : slice_get s.tables table ≡ Some it.table = subst (λ t. slice_get s.tables t ≡ Some it.table) h.table_is it.table_is in
    let columns_are : columns_of s.tables table ≡ it.table.columns = ap columns_or table_is in
    ap length terms_are ∙ (it.wide ∙ sym (ap length columns_are))

pub mapped_wide : (s : Schema) (b : Branch) (side : Side) (from facts : List ℕ) → All (FactIsTidy s b.known) b.facts → IsMapping b side from facts →
    AreAsWide s from (rows_at b facts)
mapped_wide s b side [] [] tidy h = tt
mapped_wide s b side [] (n ∷ facts) tidy h = absurd h
mapped_wide s b side (table ∷ from) [] tidy h = absurd h
mapped_wide s b side (table ∷ from) (n ∷ facts) tidy h = (fact_wide s b side table n tidy h.0, mapped_wide s b side from facts tidy h.1)

-- the head of a part that fits has terms under facts of its tables
pub mapped_terms : (s : Schema) (params vars kinds : List Kind) (b : Branch) (side : Side) (part : Part) (facts : List ℕ) → PartFits s params vars kinds part →
    All (FactIsTidy s b.known) b.facts → IsMapping b side part.from facts → All (HasTerm (rows_at b facts)) part.head
mapped_terms s params vars kinds b side part facts fits tidy h =
    have_terms s params vars part.from (rows_at b facts) (mapped_wide s b side part.from facts tidy h) part.head kinds fits.head

-- ---- the cases of steps

module _ (p : Problem) (b : Branch) (fits : ProblemFits p) (tidy : IsTidy p b) where
  module _ (view part : ℕ) (facts : List ℕ) (it : View) (of : Part) (at_view : slice_get p.policy.views view ≡ Some it) (at_part : slice_get it.query.parts part ≡ Some of)
      (passes : ViewPasses p b view part facts) where
    view_fits : QueryFits p.policy.schema (kinds_of p.policy.params) [] it.query
    view_fits =
        (All-at (λ (v : View). IsQuery p.policy.schema (kinds_of p.policy.params) [] v.query) p.policy.views view it (fits.policy).views at_view).fits

    part_fits : PartFits p.policy.schema (kinds_of p.policy.params) [] view_fits.kinds of
    part_fits = All-at (PartFits p.policy.schema (kinds_of p.policy.params) [] view_fits.kinds) it.query.parts part of view_fits.parts at_part

    same_view : passes.is_part.of ≡ it
    same_view = same_Some passes.is_part.of it (sym passes.is_part.view_is ∙ at_view)

    same_part : passes.it ≡ of
    same_part =
        same_Some passes.it of (sym passes.is_part.part_is ∙ (ap (λ (v : View). slice_get v.query.parts part) same_view ∙ at_part))

    view_pass : FactsPass b One of facts
    view_pass = subst (λ q. FactsPass b One q facts) same_part passes.pass

    pub view_terms : All (HasTerm (rows_at b facts)) of.head
    view_terms =
        mapped_terms p.policy.schema (kinds_of p.policy.params) [] view_fits.kinds b One of facts part_fits tidy.facts view_pass.mapping

    pub view_parts : All (IsPartFor p.policy.schema (length of.head)) it.query.parts
    view_parts =
        parts_for p.policy.schema (kinds_of p.policy.params) [] it.query view_fits (length of.head)
        (sym (same_count (kind_of p.policy.schema (kinds_of p.policy.params) [] of.from) of.head view_fits.kinds part_fits.head))

    pub view_leads : (parts : List Part) (cases : List Branch) → parts ≡ it.query.parts → AreNext p.policy.schema b Two of facts parts cases →
        ViewLeads p b view part facts cases
    view_leads parts cases same h =
        record {
          passes = record { it = of; is_part = record { of = it; view_is = at_view; part_is = at_part }; pass = view_pass };
          next = subst (λ ps. AreNext p.policy.schema b Two of facts ps cases) same h;
        }
