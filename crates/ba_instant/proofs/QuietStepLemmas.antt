-- What quiet steps lead to.
use Rattle.std.proofs.Common.{◌≡◌, ◌∙◌, ℕ, List, [], ◌∷◌, map, sym, subst}
use Rattle.std.proofs.lemmas.List.Elements.{All-cons, All-head, All-nil, All-tail}
use Rattle.std.proofs.lemmas.Option.{same_Some}
use Rattle.std.specs.List.{All, AllZip}
use Rattle.std.specs.Prelude.{Some}
use Rattle.ba_model.specs.declared.query.Atom.{Atom}
use Rattle.ba_model.specs.declared.query.Op.{Op}
use Rattle.ba_model.specs.declared.query.Op.TheVariants.{Eq, Ne, Lt, Le, IsNull, NotNull}
use Rattle.ba_model.specs.declared.query.Operand.{Operand}
use Rattle.ba_model.specs.declared.query.Part.{Part}
use Rattle.ba_model.specs.declared.schema.Schema.{Schema}
use Rattle.ba_facts.specs.Known.{Known, itself}
use Rattle.ba_facts.specs.Matches.{IsFactOf, IsMapping, IsShown, Under, row_of, term_of, terms_at}
use Rattle.ba_facts.specs.Shown.{ShowsOf}
use Rattle.ba_facts.specs.declared.branch.Branch.{Branch}
use Rattle.ba_facts.specs.declared.term.Fact.{Fact}
use Rattle.ba_facts.specs.declared.term.Side.{Side}
use Rattle.ba_facts.specs.declared.term.Term.{Term}
use Rattle.ba_kernel.proofs.StepFits.{All-at}
use Rattle.ba_kernel.specs.Effects.{rows_at}
use Rattle.ba_kernel.specs.Steps.{FactsPass}
use Rattle.ba_instant.specs.QuietSteps.{FactsAreFilled, GivesRow, IsOneWith, IsPlain, IsRowFor}
use Rattle.ba_instant.specs.Windows.{IsToldOf}

-- ---- what is shown and plain is known as lessons tell it

module _ (b : Branch) where
  abbrev its : Known
  its = b.known

  plain_told : (op : Op) (x y : Term) → ShowsOf its op x y → IsPlain its op x y → IsToldOf its op x y
  plain_told Eq x y h plain = (h.not_null, plain)
  plain_told Ne x y h plain = (h.0, plain)
  plain_told Lt x y h plain = h
  plain_told Le x y h plain = h
  plain_told IsNull x y h plain = h
  plain_told NotNull x y h plain = h

  atom_told : (rows : List (List Term)) (atom : Atom) → IsShown its rows atom → Under (IsPlain its) rows atom → Under (IsToldOf its) rows atom
  atom_told rows atom h plain =
      let left : plain.left ≡ h.left = same_Some plain.left h.left (sym plain.left_is ∙ h.left_is) in
      let right : plain.right ≡ h.right = same_Some plain.right h.right (sym plain.right_is ∙ h.right_is) in
      record {
        left = h.left;
        right = h.right;
        left_is = h.left_is;
        right_is = h.right_is;
        holds = plain_told atom.op h.left h.right h.holds (subst (λ x. IsPlain its atom.op x h.right) left (subst (IsPlain its atom.op plain.left) right plain.holds));
      }

  pub told_as_shown : (rows : List (List Term)) (conds : List Atom) → All (IsShown its rows) conds → All (Under (IsPlain its) rows) conds → All (Under (IsToldOf its) rows) conds
  told_as_shown rows [] h plain = All-nil (Under (IsToldOf its) rows)
  told_as_shown rows (atom ∷ conds) h plain =
      All-cons (Under (IsToldOf its) rows) atom conds (atom_told rows atom (All-head (IsShown its rows) atom conds h) (All-head (Under (IsPlain its) rows) atom conds plain))
      (told_as_shown rows conds (All-tail (IsShown its rows) atom conds h) (All-tail (Under (IsPlain its) rows) atom conds plain))

-- ---- facts that yield a row give it

module _ (s : Schema) (b : Branch) (filled : FactsAreFilled s b) where
  abbrev k : Known
  k = b.known

  fact_row : (side : Side) (table n : ℕ) → IsFactOf b side table n → IsRowFor s k table (terms_at b n)
  fact_row side table n h =
      let it = All-at (λ (fact : Fact). IsRowFor s k fact.table fact.terms) b.facts n h.fact filled.facts h.there in
      let terms_are : terms_at b n ≡ h.fact.terms = cc (h.there) in
      subst (λ ts. IsRowFor s k table ts) (sym terms_are) (subst (λ t. IsRowFor s k t h.fact.terms) h.table_is it)

  fact_rows : (side : Side) (from facts : List ℕ) → IsMapping b side from facts → AllZip (IsRowFor s k) from (rows_at b facts)
  fact_rows side [] [] h = tt
  fact_rows side [] (n ∷ facts) h = absurd h
  fact_rows side (table ∷ from) [] h = absurd h
  fact_rows side (table ∷ from) (n ∷ facts) h = (fact_row side table n h.0, fact_rows side from facts h.1)

  head_given : (rows : List (List Term)) (head : List Operand) (row : List Term) → map (term_of rows) head ≡ map Some row → AllZip (IsOneWith k) (map (term_of rows) head) row
  head_given rows [] [] e = tt
  head_given rows [] (t ∷ row) e = cc
  head_given rows (x ∷ head) [] e = cc
  head_given rows (x ∷ head) (t ∷ row) e =
      let first : term_of rows x ≡ Some t = cc in
      let rest : map (term_of rows) head ≡ map Some row = cc in
      (record { term = t; is = first; class = itself }, head_given rows head row rest)

  pub pass_gives : (side : Side) (part : Part) (facts : List ℕ) (row : List Term) → FactsPass b side part facts → row_of b facts part.head ≡ map Some row → All (Under (IsPlain k) (rows_at b facts)) part.conds →
      GivesRow s b part (rows_at b facts) row
  pass_gives side part facts row h row_is plain =
      record {
        rows_for = fact_rows side part.from facts h.mapping;
        told = told_as_shown b (rows_at b facts) part.conds h.shown plain;
        head = head_given (rows_at b facts) part.head row row_is;
      }
