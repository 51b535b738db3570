-- Templates that the opening passes admit before any other passes are split off them.
use mathlib.Core.List.{map-append}
use Rattle.std.proofs.Common.{◌≡◌, ◌∙◌, refl, sym, ap, subst, ℕ, ◌+◌, ◌<◌, ◌≤◌, ◌==◌, Bool, true, false, cond, List, [], ◌∷◌, ◌++◌, append-nil, length, length-append, map, arith}
use Rattle.std.proofs.Math.Nat.{mod-lt}
use Rattle.std.proofs.lemmas.Bool.{eqb-false, eqb-true}
use Rattle.std.proofs.lemmas.List.{length-map}
use Rattle.std.proofs.lemmas.List.Concat.{flat_map-append}
use Rattle.ba_cache.specs.Passes.{CallsOn, known_on}
use Rattle.ba_cache.specs.Rows.{shape_of_template}
use Rattle.ba_cache.specs.declared.call.Admit.{Admit as Answer}
use Rattle.ba_cache.specs.declared.call.ShelfCall.{ShelfCall}
use Rattle.ba_cache.specs.declared.call.ShelfCall.TheVariants.{Admit}
use Rattle.ba_input.specs.declared.input.Input.{Input}
use Rattle.ba_kernel.specs.SearchStates as kernel
use Rattle.ba_session.specs.Passing.{IsOpened, LeavesVersions, calls_on}
use Rattle.ba_session.specs.declared.service.Passes.{Passes}
use Rattle.ba_template.specs.Shapes.{shard_of}
use Rattle.ba_lanes.proofs.JoinLemmas.{IsAlone, alone_first, alone_more, alone_split, split_first}
use Rattle.ba_lanes.specs.Legal.{AreLoads, Load, admit_of, admits_on}
use Rattle.ba_lanes.specs.Serving.{HaveDealt, shelf_calls, version_calls}
use Rattle.ba_turn.specs.Knowing.{opening_known}
use Rattle.ba_turn.specs.Passes.{known_by}
use Rattle.ba_turn.specs.declared.known.Known.{Known}
use Rattle.ba_versions.specs.declared.versions.Versions.{Versions}

-- ---- counts

abbrev pub left_of : {S E : Type 0} → Known S E → ℕ
left_of v = v.left

one_at_most : (t : Bool) (call : ShelfCall) → length (cond t (call ∷ []) []) ≤ 1
one_at_most true call = omega arith
one_at_most false call = omega arith

-- each is admitted to one shelf
admits_few : (i : ℕ) (loads : List Load) → length (admits_on i loads) ≤ length loads
admits_few i [] = omega arith
admits_few i (it ∷ loads) =
    let rest = admits_few i loads in
    let call = Admit (record { marker = record {}; value = it.template }) it.answer in
    let one = one_at_most (shard_of (shape_of_template it.template) == i) call in
    let both = length-append (calls_on i (admit_of it)) (admits_on i loads) in
    omega (arith, rest, one, both)

pub loaded_few : (input : Input) (loads : List Load) (i : ℕ) → AreLoads input loads → length (admits_on i loads) ≤ length input.loaded
loaded_few input loads i are =
    let few = admits_few i loads in
    let many = length-map loads (λ (it : Load). it.template) in
    let same = ap length are in
    omega (arith, few, many, same)

-- ---- one template more

admits_more : (i : ℕ) (loads : List Load) (it : Load) → admits_on i (loads ++ it ∷ []) ≡ admits_on i loads ++ calls_on i (admit_of it)
admits_more i loads it = flat_map-append _ loads (it ∷ []) ∙ ap (λ more. admits_on i loads ++ more) (append-nil (calls_on i (admit_of it)))

-- What the opening passes know once these templates are admitted, of those of the input.
pub record Loading (input : Input) (templates : List kernel.Proof) (p : Passes) : Type 0 where
  pub loads : List Load
  pub loaded : map (λ (it : Load). it.template) loads ≡ templates
  pub start : Versions
  pub versions : known_by p.versions ≡ opening_known start (version_calls input.script.entries)
  pub shelves : (i : ℕ) → i < 8 → IsAlone (admits_on i loads) (shelf_calls input.script.entries + length input.loaded) (known_on p.cache i)

pub loading_none : (input : Input) (p : Passes) → IsOpened (version_calls input.script.entries) (shelf_calls input.script.entries + length input.loaded) p → Loading input [] p
loading_none input p h = record {
  loads = [];
  loaded = refl;
  start = h.start;
  versions = h.versions;
  shelves = λ i low. alone_first (h.shelves.each i low).start (shelf_calls input.script.entries + length input.loaded) (known_on p.cache i) (h.shelves.each i low).known;
}

module _ (input : Input) (templates : List kernel.Proof) (old : Passes) (h : Loading input templates old) (template : kernel.Proof) where
  abbrev shard : ℕ
  shard = shard_of (shape_of_template template)

  low_shard : shard < 8
  low_shard = mod-lt _ (omega arith)

  -- there is room for its call
  pub room_left : length templates < length input.loaded → 0 < (known_on old.cache shard).left
  room_left below =
      let left = (h.shelves shard low_shard).left in
      let few = admits_few shard h.loads in
      let many = length-map h.loads (λ (it : Load). it.template) in
      let same = ap length h.loaded in
      omega (arith, below, left, few, many, same)

  module _ (answer : Answer) (new : Passes) (versions : LeavesVersions old new) (calls : CallsOn shard old.cache new.cache (Admit (record { marker = record {}; value = template }) answer)) where
    abbrev allowance : ℕ
    allowance = shelf_calls input.script.entries + length input.loaded

    abbrev it : Load
    it = record { template = template; answer = answer }

    abbrev call : ShelfCall
    call = Admit (record { marker = record {}; value = template }) answer

    on_shelf : (i : ℕ) → i < 8 → (t : Bool) → (shard == i) ≡ t → IsAlone (admits_on i h.loads ++ cond t (call ∷ []) []) allowance (known_on new.cache i)
    on_shelf i low true e =
        subst (λ z. IsAlone (admits_on z h.loads ++ call ∷ []) allowance (known_on new.cache z)) (eqb-true shard i e)
        (alone_more (admits_on shard h.loads) allowance (known_on old.cache shard) (known_on new.cache shard) call (h.shelves shard low_shard) calls.made)
    on_shelf i low false e =
        subst (λ z. IsAlone z allowance (known_on new.cache i)) (sym (append-nil (admits_on i h.loads)))
        (subst (IsAlone (admits_on i h.loads) allowance) (sym (calls.others i (λ same. eqb-false shard i e (sym same)))) (h.shelves i low))

    pub loading_more : Loading input (templates ++ template ∷ []) new
    loading_more = record {
      loads = h.loads ++ it ∷ [];
      loaded = map-append (λ (it : Load). it.template) h.loads (it ∷ []) ∙ ap (λ z. z ++ template ∷ []) h.loaded;
      start = h.start;
      versions = versions ∙ h.versions;
      shelves = λ i low. subst (λ z. IsAlone z allowance (known_on new.cache i)) (sym (admits_more i h.loads it)) (on_shelf i low (shard == i) refl);
    }

-- ---- all templates

-- no lane has its passes yet
pub dealt_none : (input : Input) (p : Passes) → Loading input input.loaded p → (loads : List Load) × HaveDealt input loads 0 p
dealt_none input p h = (
  h.loads,
  record {
    loaded = h.loaded;
    split = record {
      versions = split_first h.start (version_calls input.script.entries) (known_by p.versions) h.versions;
      shelves = λ i low. alone_split (admits_on i h.loads) (shelf_calls input.script.entries + length input.loaded) (known_on p.cache i) (h.shelves i low);
    };
    left = record {
      versions = let left = ap left_of h.versions in omega (arith, left);
      shelves = λ i low. let left = (h.shelves i low).left in omega (arith, left);
    };
  },
)
