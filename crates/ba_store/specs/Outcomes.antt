-- A template file comes to one outcome at most, and what it loads is proved.
use Rattle.std.specs.Prelude.{◌≡◌, ℕ, List, Result}
use Rattle.ba_model.specs.declared.policy.Policy.{Policy}
use Rattle.ba_kernel.specs.Drafts.{IsChecked}
use Rattle.ba_kernel.specs.SearchStates.{Proof}
use Rattle.ba_store.specs.Loads.{Loads}
use Rattle.ba_store.specs.declared.fault.StoreFault.{StoreFault}

-- for a policy that was checked, whatever the bytes
abbrev pub FileHasOneOutcome : Type 0
FileHasOneOutcome =
    (policy : Policy) (bytes : List ℕ) (outcome other : Result (List Proof) StoreFault) → IsChecked policy → Loads policy bytes outcome →
    Loads policy bytes other → outcome ≡ other
