-- Queries fit more parameters too.
use Rattle.std.proofs.Common.{◌≡◌, ℕ, zero, suc, List, [], ◌∷◌, ◌++◌, map, slice_get, All, Option, Some, None, Result, Ok, Err, Bool, true, false, refl, sym, ap, subst, ◌∙◌, arith}
use Rattle.std.specs.List.{AllByRecursion, list_any}
use Rattle.std.specs.Result.{OnOk}
use Rattle.std.proofs.lemmas.List.{map-append}
use Rattle.std.proofs.lemmas.List.Elements.{All-from_recursion, recursion_from_All}
use Rattle.std.proofs.lemmas.Option.{slice_get_past}
use Rattle.ba_model.specs.Fit.{AtomFits, IsQuery, PartFits, QueryFits, kind_of, kinds_of}
use Rattle.ba_model.specs.Readings.{Sees}
use Rattle.ba_model.specs.declared.failure.Failure.{Failure}
use Rattle.ba_model.specs.declared.policy.Parameter.{Parameter}
use Rattle.ba_model.specs.declared.policy.View.{View}
use Rattle.ba_model.specs.declared.query.Atom.{Atom}
use Rattle.ba_model.specs.declared.query.Operand.{Operand}
use Rattle.ba_model.specs.declared.query.Operand.TheVariants.{Col, Val, Param, Var}
use Rattle.ba_model.specs.declared.query.Part.{Part}
use Rattle.ba_model.specs.declared.query.Query.{Query}
use Rattle.ba_model.specs.declared.schema.Kind.{Kind}
use Rattle.ba_model.specs.declared.schema.Schema.{Schema}
use Rattle.ba_policy.specs.Meaning.{DraftFits, KeysFit, key_added, param_added, same_name, view_added, with_param}
use Rattle.ba_policy.specs.Statements.{parameter}
use Rattle.ba_lex.specs.declared.token.Lexeme.{Lexeme}
use Rattle.ba_policy.proofs.DeclareLemmas.{key_is, param_is, view_is}
use Rattle.ba_policy.specs.declared.draft.Draft.{Draft}
use Rattle.ba_policy.specs.declared.error.PolicyFault.{PolicyFault}
use Rattle.ba_policy.specs.declared.error.PolicyFault.TheVariants.{DuplicateParam}

get_more : {A : Type 0} (xs ys : List A) (n : ℕ) (x : A) → slice_get xs n ≡ Some x → slice_get (xs ++ ys) n ≡ Some x
get_more {A} [] ys n x e =
    let none : slice_get {X = A} [] n ≡ None = slice_get_past {X = A} [] n (omega arith) in
    let wrong : ◌≡◌ {A = Option A} None (Some x) = sym none ∙ e in
    cc
get_more (y ∷ xs) ys zero x e = e
get_more (y ∷ xs) ys (suc n) x e = get_more xs ys n x e

module _ (s : Schema) (ps more vars : List Kind) where
  kind_more : (from : List ℕ) (o : Operand) (k : Kind) → kind_of s ps vars from o ≡ Some k → kind_of s (ps ++ more) vars from o ≡ Some k
  kind_more from (Col p c) k e = e
  kind_more from (Val v) k e = e
  kind_more from (Param n) k e = get_more ps more n k e
  kind_more from (Var n) k e = e

  atom_more : (from : List ℕ) (a : Atom) → AtomFits s ps vars from a → AtomFits s (ps ++ more) vars from a
  atom_more from a h = record { kind = h.kind; left_is = kind_more from a.left h.kind h.left_is; right_is = kind_more from a.right h.kind h.right_is; op = h.op }

  atoms_more : (from : List ℕ) (atoms : List Atom) → AllByRecursion (AtomFits s ps vars from) atoms → AllByRecursion (AtomFits s (ps ++ more) vars from) atoms
  atoms_more from [] h = tt
  atoms_more from (a ∷ atoms) h = (atom_more from a h.0, atoms_more from atoms h.1)

  head_more : (from : List ℕ) (os : List Operand) (ks : List Kind) → map (kind_of s ps vars from) os ≡ map Some ks → map (kind_of s (ps ++ more) vars from) os ≡ map Some ks
  head_more from [] [] e = refl
  head_more from [] (k ∷ ks) e = cc
  head_more from (o ∷ os) [] e = cc
  head_more from (o ∷ os) (k ∷ ks) e =
      let one : kind_of s ps vars from o ≡ Some k = cc in
      let others : map (kind_of s ps vars from) os ≡ map Some ks = cc in
      ap (λ (x : Option Kind). x ∷ map (kind_of s (ps ++ more) vars from) os) (kind_more from o k one) ∙ ap (λ (xs : List (Option Kind)). Some k ∷ xs) (head_more from os ks others)

  part_more : (kinds : List Kind) (part : Part) → PartFits s ps vars kinds part → PartFits s (ps ++ more) vars kinds part
  part_more kinds part h = record {
    some_table = h.some_table;
    tables = h.tables;
    conds = All-from_recursion (AtomFits s (ps ++ more) vars part.from) part.conds (atoms_more part.from part.conds (recursion_from_All (AtomFits s ps vars part.from) part.conds h.conds));
    head = head_more part.from part.head kinds h.head;
  }

  parts_more : (kinds : List Kind) (parts : List Part) → AllByRecursion (PartFits s ps vars kinds) parts → AllByRecursion (PartFits s (ps ++ more) vars kinds) parts
  parts_more kinds [] h = tt
  parts_more kinds (p ∷ parts) h = (part_more kinds p h.0, parts_more kinds parts h.1)

  query_more : (q : Query) → QueryFits s ps vars q → QueryFits s (ps ++ more) vars q
  query_more q h = record {
    kinds = h.kinds;
    some_kind = h.some_kind;
    some_part = h.some_part;
    parts = All-from_recursion (PartFits s (ps ++ more) vars h.kinds) q.parts (parts_more h.kinds q.parts (recursion_from_All (PartFits s ps vars h.kinds) q.parts h.parts));
  }

abbrev Fits : Schema → List Kind → View → Type 0
Fits s ps it = IsQuery s ps [] it.query

checked_more : (s : Schema) (ps more : List Kind) (q : Query) → IsQuery s ps [] q → IsQuery s (ps ++ more) [] q
checked_more s ps more q h = record { fits = query_more s ps more [] q h.fits; few_parts = h.few_parts; within = h.within }

views_more : (s : Schema) (ps more : List Kind) (vs : List View) → AllByRecursion (Fits s ps) vs → AllByRecursion (Fits s (ps ++ more)) vs
views_more s ps more [] h = tt
views_more s ps more (v ∷ vs) h = (checked_more s ps more v.query h.0, views_more s ps more vs h.1)

param_fits : (s : Schema) (d : Draft) (name : List ℕ) (kind : Kind) → DraftFits s d → DraftFits s (with_param d name kind)
param_fits s d name kind h =
    let kinds : kinds_of (d.params ++ parameter name kind ∷ []) ≡ kinds_of d.params ++ kind ∷ [] = map-append (λ (p : Parameter). p.kind) d.params (parameter name kind ∷ []) in
    record { views = subst (λ (ks : List Kind). All (Fits s ks) d.views) (sym kinds) (All-from_recursion (Fits s (kinds_of d.params ++ kind ∷ [])) d.views (views_more s (kinds_of d.params) (kind ∷ []) d.views (recursion_from_All (Fits s (kinds_of d.params)) d.views h.views))) }

pub added_param_fits : (s : Schema) (d e : Draft) (name : List ℕ) (kind : Kind) → param_added d name kind ≡ Ok e → DraftFits s d → DraftFits s e
added_param_fits s d e name kind h fits = at (list_any (same_name name) d.param_names) refl
  where
    drafts : (a b : Draft) → ◌≡◌ {A = Result Draft PolicyFault} (Ok a) (Ok b) → a ≡ b
    drafts a b e = cc

    at : (t : Bool) → list_any (same_name name) d.param_names ≡ t → DraftFits s e
    at false g = subst (DraftFits s) (drafts (with_param d name kind) e (rw g at h)) (param_fits s d name kind fits)
    at true g = let wrong : ◌≡◌ {A = Result Draft PolicyFault} (Err (DuplicateParam name)) (Ok e) = rw g at h in cc

pub param_given : (s : Schema) (d e : Draft) (name : List ℕ) (kind : Kind) (r : Result (Unit {0}) (Failure PolicyFault)) → Sees (λ u. e) r (param_added d name kind) → DraftFits s d → OnOk r (DraftFits s e)
param_given s d e name kind (Ok u) h fits = added_param_fits s d e name kind h fits
param_given s d e name kind (Err f) h fits = tt

-- ---- what a statement leaves as it is

pub param_keeps_keys : (s : Schema) (all : List Parameter) (d e : Draft) (name : List ℕ) (kind : Kind) (r : Result (Unit {0}) (Failure PolicyFault)) → Sees (λ u. e) r (param_added d name kind) → KeysFit s all d.keys → OnOk r (KeysFit s all e.keys)
param_keeps_keys s all d e name kind (Ok u) h fits = subst (KeysFit s all) (ap (λ (x : Draft). x.keys) (param_is d e name kind h).is) fits
param_keeps_keys s all d e name kind (Err f) h fits = tt

pub view_keeps_keys : (s : Schema) (all : List Parameter) (d e : Draft) (name : List ℕ) (words : List Lexeme) (r : Result (Unit {0}) (Failure PolicyFault)) → Sees (λ u. e) r (view_added s d name words) → KeysFit s all d.keys → OnOk r (KeysFit s all e.keys)
view_keeps_keys s all d e name words (Ok u) h fits = subst (KeysFit s all) (ap (λ (x : Draft). x.keys) (view_is s d e name words h).is) fits
view_keeps_keys s all d e name words (Err f) h fits = tt

pub key_keeps_views : (s : Schema) (all : List Parameter) (d e : Draft) (name : List ℕ) (arguments : List Parameter) (queries : List (List Lexeme)) (r : Result (Unit {0}) (Failure PolicyFault)) → Sees (λ u. e) r (key_added s all d name arguments queries) → DraftFits s d
    → OnOk r (DraftFits s e)
key_keeps_views s all d e name arguments queries (Ok u) h fits =
    let k = key_is s all d e name arguments queries h in
    subst (DraftFits s) k.is (record { views = fits.views })
key_keeps_views s all d e name arguments queries (Err f) h fits = tt
