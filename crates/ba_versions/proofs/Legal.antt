-- Legal histories of the versions.
use Rattle.std.proofs.Common.{◌≡◌, ◌∙◌, ℕ, ◌-◌, ◌<◌, List, [], ◌∷◌, ◌++◌, Some, length, refl, ap, subst, sym, get_or, arith}
use Rattle.std.proofs.Math.Logic.{∥∥₁_map}
use Rattle.std.proofs.lemmas.List.Elements.{All-cons, All-get_or, All-nil, All-push, All-same}
use Rattle.std.proofs.lemmas.Option.{slice_get_read}
use Rattle.std.specs.Prelude.{All}
use Rattle.std.specs.declared.snapshot.Snapshot.{Snapshot}
use Rattle.ba_model.specs.Conform.{Conforms}
use Rattle.ba_model.specs.declared.schema.Schema.{Schema}
use Rattle.ba_tables.specs.TableSet.{TableSet}
use Rattle.ba_versions.specs.Calls.{IsLegal, IsOfSchema, IsPinned, IsVersion, Legal, Steps, start, next}
use Rattle.ba_versions.specs.declared.call.VersionCall.{VersionCall}
use Rattle.ba_versions.specs.declared.call.VersionCall.TheVariants.{Publish, Pin, Refused}

-- what a snapshot tells is all of it
pub told_is : (s : Snapshot TableSet) (tables : TableSet) → s.value ≡ tables → s ≡ record { marker = record {}; value = tables }
told_is s tables e = ap (λ (t : TableSet). record { marker = record {}; value = t }) e

-- what a look at the schema tells
pub conform_is : (schema : Schema) (seen tables : TableSet) → seen ≡ tables → schema ≡ seen.schema → Conforms schema seen.rows → Conforms tables.schema tables.rows
conform_is schema seen tables same is h = subst (λ (t : TableSet). Conforms t.schema t.rows) same (subst (λ (s : Schema). Conforms s seen.rows) is h)

-- before any call
pub starts : (opening tables : TableSet) (calls : List VersionCall) (list : List TableSet) → opening ≡ tables → Conforms tables.schema tables.rows → calls ≡ [] → list ≡ tables ∷ []
    → ∥ Legal opening calls list ∥₁ × All (IsOfSchema opening) list
starts opening tables calls list same conforms none one =
    let at : (vs : List TableSet) → vs ≡ opening ∷ [] → ∥ Legal opening [] vs ∥₁ × All (IsOfSchema opening) vs =
    λ vs e. (
      subst (λ (l : List TableSet). ∥ Legal opening [] l ∥₁) (sym e) ∣ start (record { schema = refl; conforms = subst (λ (t : TableSet). Conforms t.schema t.rows) (sym same) conforms }) ∣₁,
      All-same (IsOfSchema opening) vs (opening ∷ []) e (All-cons (IsOfSchema opening) opening [] refl (All-nil (IsOfSchema opening))),
    )
    in
    let here = at list (one ∙ ap (λ (t : TableSet). t ∷ []) (sym same)) in
    (subst (λ (l : List VersionCall). ∥ Legal opening l list ∥₁) (sym none) here.0, here.1)

-- one call more
pub goes_on : (opening : TableSet) (calls calls' : List VersionCall) (old new : List TableSet) (call : VersionCall) → ∥ Legal opening calls old ∥₁ → Steps opening old call new → calls' ≡ calls ++ call ∷ [] → ∥ Legal opening calls' new ∥₁
goes_on opening calls calls' old new call legal step is = ∥∥₁_map legal (λ it. subst (λ (l : List VersionCall). Legal opening l new) (sym is) (next call it step))

-- one version more
pub one_more : (opening : TableSet) (old new : List TableSet) (tables : TableSet) → All (IsOfSchema opening) old → IsOfSchema opening tables → new ≡ old ++ tables ∷ [] → All (IsOfSchema opening) new
one_more opening old new tables all here is = All-same (IsOfSchema opening) new (old ++ tables ∷ []) is (All-push (IsOfSchema opening) old tables all here)

-- the last version
pub last_is : (opening : TableSet) (list : List TableSet) (len n : ℕ) (tables at : TableSet) → len ≡ length list → 0 < len → n ≡ len - 1 → at ≡ get_or list n at → tables ≡ at → Conforms tables.schema tables.rows → All (IsOfSchema opening) list
    → IsPinned list n tables list × IsVersion opening tables
last_is opening list len n tables at is some n_is read copy conforms all = (
  record {
    last = omega arith;
    there = slice_get_read list len n at is (omega arith) read ∙ ap Some (sym copy);
    same = refl;
  },
  record {
    schema = ap (λ (t : TableSet). t.schema) (copy ∙ read) ∙ All-get_or (IsOfSchema opening) list n at (omega arith) all;
    conforms = conforms;
  },
)

-- every version conforms to the schema of the opening tables
step_conforms : (opening : TableSet) (call : VersionCall) (old new : List TableSet) → Steps opening old call new → All (IsVersion opening) old → All (IsVersion opening) new
step_conforms opening (Publish told n) old new h all = All-same (IsVersion opening) new (old ++ told.value ∷ []) h.appended (All-push (IsVersion opening) old told.value all h.version)
step_conforms opening (Pin n told) old new h all = All-same (IsVersion opening) new old h.same all
step_conforms opening Refused old new h all = All-same (IsVersion opening) new old h all

pub all_conform : (opening : TableSet) {calls : List VersionCall} {list : List TableSet} → Legal opening calls list → All (IsVersion opening) list
all_conform opening (start v) = All-cons (IsVersion opening) opening [] v (All-nil (IsVersion opening))
all_conform opening (next {old = old} {new = new} call before step) = step_conforms opening call old new step (all_conform opening before)

-- what versions tell of their calls, is legal from the opening tables of the first ones
pub legal_seen : (opening first : TableSet) (calls seen : List VersionCall) (list : List TableSet) → opening ≡ first → ∥ Legal opening calls list ∥₁ → seen ≡ calls → IsLegal first seen
legal_seen opening first calls seen list same legal is =
    ∥∥₁_map legal (λ it. (list, subst (λ (l : List VersionCall). Legal first l list) (sym is) (subst (λ (t : TableSet). Legal t calls list) same it)))
