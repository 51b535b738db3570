-- Statements added one after the other.
use Rattle.std.proofs.Common.{◌≡◌, ℕ, ◌+◌, ◌<◌, ◌≤◌, List, [], ◌∷◌, ◌++◌, length, drop, get_or, map, Result, Ok, Err, refl, sym, ap, subst, ◌∙◌, append_assoc}
use Rattle.std.specs.Result.{IfOk}
use Rattle.std.proofs.lemmas.List.{append-nil, drop_all, drop_more}
use Rattle.std.proofs.lemmas.List.Elements.{All-nil}
use Rattle.ba_model.specs.Fit.{IsQuery, kinds_of}
use Rattle.ba_model.specs.Readings.{◌>>=◌, Fails, Gives}
use Rattle.ba_model.specs.declared.failure.Failure.{Failure}
use Rattle.ba_model.specs.declared.failure.Failure.TheVariants.{NoMemory, Fault}
use Rattle.ba_model.specs.declared.policy.Parameter.{Parameter}
use Rattle.ba_model.specs.declared.schema.Schema.{Schema}
use Rattle.ba_policy.specs.Meaning.{DraftFits, KeysFit, added, all_added, nothing, params_in}
use Rattle.ba_policy.specs.Statements.{StatementText, seen}
use Rattle.ba_policy.specs.Statements.StatementText.{param}
use Rattle.ba_policy.specs.declared.draft.Draft.{Draft}
use Rattle.ba_policy.specs.declared.error.PolicyFault.{PolicyFault}
use Rattle.ba_policy.specs.declared.statement.Statement.{Statement}
use Rattle.ba_policy.proofs.DeclareLemmas.{params_are}

-- ---- the parameters of statements

pub record Declaring (found : List Parameter) (statements : List Statement) (i : ℕ) : Type 0 where
  pub so_far : found ++ params_in (map seen (drop i statements)) ≡ params_in (map seen statements)

-- the statement declares these
abbrev pub params_of : StatementText → List Parameter
params_of s = params_in (s ∷ [])

params_split : (s : StatementText) (ss : List StatementText) → params_in (s ∷ ss) ≡ params_of s ++ params_in ss
params_split (param n k) ss = refl
params_split (StatementText.view n ws) ss = refl
params_split (StatementText.key n ps ws) ss = refl

pub declaring_more : (found found2 : List Parameter) (statements : List Statement) (i : ℕ) (s : Statement) → Declaring found statements i → i < length statements → s ≡ get_or statements i s → found2 ≡ found ++ params_of (seen s) → Declaring found2 statements (i + 1)
declaring_more found found2 statements i s at lt is more = record {
  so_far =
      ap (λ (xs : List Parameter). xs ++ params_in (map seen (drop (i + 1) statements))) more
      ∙ append_assoc found (params_of (seen s)) (params_in (map seen (drop (i + 1) statements)))
      ∙ ap (λ (xs : List Parameter). found ++ xs) (sym (params_split (seen s) (map seen (drop (i + 1) statements))))
      ∙ ap (λ (xs : List Statement). found ++ params_in (map seen xs)) (sym (drop_more statements i s lt ∙ ap (λ (y : Statement). y ∷ drop (i + 1) statements) (sym is)))
      ∙ at.so_far;
}

pub declaring_ends : (found : List Parameter) (statements : List Statement) (i : ℕ) → Declaring found statements i → length statements ≤ i → found ≡ params_in (map seen statements)
declaring_ends found statements i at le = sym (append-nil found) ∙ ap (λ (xs : List Statement). found ++ params_in (map seen xs)) (sym (drop_all i statements le)) ∙ at.so_far

-- ---- the draft

pub record Adding (schema : Schema) (all : List Parameter) (d : Draft) (statements : List Statement) (i : ℕ) : Type 0 where
  pub so_far : all_added schema all d (map seen (drop i statements)) ≡ all_added schema all nothing (map seen statements)
  pub fits : DraftFits schema d
  pub keys_fit : KeysFit schema all d.keys

no_keys : (schema : Schema) (all : List Parameter) (d : Draft) → d ≡ nothing → KeysFit schema all d.keys
no_keys schema all d e = subst (λ (x : Draft). KeysFit schema all x.keys) (sym e) (All-nil _)

pub adding_start : (schema : Schema) (all : List Parameter) (d : Draft) (statements : List Statement) → d ≡ nothing → Adding schema all d statements 0
adding_start schema all d statements e =
    record { so_far = ap (λ (x : Draft). all_added schema all x (map seen statements)) e; fits = rw e (record { views = All-nil (λ it. IsQuery schema (kinds_of []) [] it.query) }); keys_fit = no_keys schema all d e }

split : (schema : Schema) (all : List Parameter) (d : Draft) (statements : List Statement) (i : ℕ) (s : Statement) → i < length statements → s ≡ get_or statements i s
    → all_added schema all d (map seen (drop i statements)) ≡ (added schema all d (seen s) >>= λ e. all_added schema all e (map seen (drop (i + 1) statements)))
split schema all d statements i s lt is =
    ap (λ (xs : List Statement). all_added schema all d (map seen xs)) (drop_more statements i s lt ∙ ap (λ (y : Statement). y ∷ drop (i + 1) statements) (sym is))

pub adding_more : (schema : Schema) (all : List Parameter) (d e : Draft) (statements : List Statement) (i : ℕ) (s : Statement) → Adding schema all d statements i → i < length statements → s ≡ get_or statements i s → added schema all d (seen s) ≡ Ok e → DraftFits schema e → KeysFit schema all e.keys
    → Adding schema all e statements (i + 1)
adding_more schema all d e statements i s at lt is h fits keys_fit =
    record { so_far = sym (split schema all d statements i s lt is ∙ ap (λ (r : Result Draft PolicyFault). r >>= λ x. all_added schema all x (map seen (drop (i + 1) statements))) h) ∙ at.so_far; fits = fits; keys_fit = keys_fit }

pub adding_fails : (schema : Schema) (all : List Parameter) (d : Draft) (statements : List Statement) (i : ℕ) (s : Statement) (err : Failure PolicyFault) → Adding schema all d statements i → i < length statements → s ≡ get_or statements i s → Fails err (added schema all d (seen s))
    → Fails err (all_added schema all nothing (map seen statements))
adding_fails schema all d statements i s NoMemory at lt is h = tt
adding_fails schema all d statements i s (Fault f) at lt is h =
    sym at.so_far ∙ split schema all d statements i s lt is ∙ ap (λ (r : Result Draft PolicyFault). r >>= λ x. all_added schema all x (map seen (drop (i + 1) statements))) h

pub adding_ends : (schema : Schema) (all : List Parameter) (d : Draft) (statements : List Statement) (i : ℕ) → Adding schema all d statements i → length statements ≤ i → all_added schema all nothing (map seen statements) ≡ Ok d
adding_ends schema all d statements i at le = sym at.so_far ∙ ap (λ (xs : List Statement). all_added schema all d (map seen xs)) (drop_all i statements le)

-- the keys fit the parameters that the draft has at the end
pub keys_fit_at_end : (schema : Schema) (all : List Parameter) (statements : List StatementText) (r : Result Draft (Failure PolicyFault)) → all ≡ params_in statements → Gives r (all_added schema all nothing statements) → IfOk r (λ d. KeysFit schema all d.keys)
    → IfOk r (λ d. KeysFit schema d.params d.keys)
keys_fit_at_end schema all statements (Ok d) is h fits = subst (λ (ps : List Parameter). KeysFit schema ps d.keys) (is ∙ sym (params_are schema all statements d h)) fits
keys_fit_at_end schema all statements (Err e) is h fits = tt
