-- What the files of a workload come to.
use Rattle.std.proofs.Common.{◌≡◌, ◌∙◌, inl, inr, refl, sym, ap, subst, ℕ, List, [], Bool, true, false, length, map, cond, Some, Result, Ok, Err, arith, nat_lt}
use Rattle.std.specs.Prelude.{unwrap_or}
use Rattle.ba_model.specs.declared.limits.Counted.TheVariants.{FileBytes}
use Rattle.ba_outside.specs.Causes.{Rose}
use Rattle.ba_outside.specs.MemFiles.{held_or_empty}
use Rattle.ba_outside.specs.Seen.{Contents, FilesSeen}
use Rattle.ba_outside.specs.declared.mem_files.Held.{Held}
use Rattle.ba_plan.proofs.Causes.{read_fault}
use Rattle.ba_plan.proofs.Told.{determined}
use Rattle.ba_plan.specs.Follows.{Follows}
use Rattle.ba_plan.specs.Plan.{Plan, done, refuse, ask, comes_of, outcome_of}
use Rattle.ba_plan.specs.declared.stop.Stop.{Stop}
use Rattle.ba_plan.specs.declared.stop.Stop.TheVariants.{Refused, Read, TooLong, NoMemory}
use Rattle.ba_input.specs.Reading.{over, reading_of, workload_names, workload_reading}
use Rattle.ba_input.specs.Stops.{given_stop}
use Rattle.ba_input.specs.declared.input.Input.{Input}
use Rattle.ba_wire.specs.declared.fault.Fault.{Fault}
use Rattle.ba_wire.specs.declared.fault.Fault.TheVariants.{Limit}
use Rattle.ba_workload.specs.Files.{File, FilesHoldTheirBytes, bytes_in, file_of, files_of}

-- what comes of a reading of given files
abbrev pub told_stop : {X : Type 0} → Result X (Stop Fault) → Result X (Stop Fault)
told_stop (Ok x) = Ok x
told_stop (Err stop) = Err (given_stop stop)

-- a plan over given files never asks, so that want of memory may stand in place of its end
pub no_memory : {X : Type 0} (bytes : List ℕ → List ℕ) (p : Plan Fault X) (s : FilesSeen) → Follows (over bytes p) s s (Err NoMemory)
no_memory bytes (done x) s = (tt, refl)
no_memory bytes (refuse e) s = (tt, refl)
no_memory bytes (ask name limit next) s = by (no_memory bytes (next (bytes name)) s) (nat_lt limit (length (bytes name)))
  where
    by : Follows (over bytes (next (bytes name))) s s (Err NoMemory) → (t : Bool) → Follows (cond t (refuse (Limit FileBytes limit)) (over bytes (next (bytes name)))) s s (Err NoMemory)
    by rest true = (tt, refl)
    by rest false = rest

module _ {X : Type 0} (bytes : List ℕ → List ℕ) (contents : Contents) (same : (name : List ℕ) → contents name ≡ Some (bytes name)) where
  -- the plan over the files is what it comes to over them
  over_comes : (p : Plan Fault X) (s : FilesSeen) (r : Result X (Stop Fault)) → outcome_of contents p ≡ r → Follows (over bytes p) s s (told_stop r)
  over_comes (done x) s r e = subst (λ z. Follows (done x) s s (told_stop z)) e (refl, refl)
  over_comes (refuse why) s r e = subst (λ z. Follows (refuse why) s s (told_stop z)) e (refl, refl)
  over_comes (ask name limit next) s r e =
      by (over_comes (next (bytes name)) s r) (nat_lt limit (length (bytes name)))
      (subst (λ z. comes_of z limit (Err (Read name)) (Err (TooLong name limit)) (λ it. outcome_of contents (next it)) ≡ r) (same name) e)
    where
      by : (outcome_of contents (next (bytes name)) ≡ r → Follows (over bytes (next (bytes name))) s s (told_stop r)) → (t : Bool) → cond t (Err (TooLong name limit)) (outcome_of contents (next (bytes name))) ≡ r →
          Follows (cond t (refuse (Limit FileBytes limit)) (over bytes (next (bytes name)))) s s (told_stop r)
      by rest true long = subst (λ z. Follows {X = X} (refuse (Limit FileBytes limit)) s s (told_stop z)) long (refl, refl)
      by rest false goes = rest goes

  over_follows : (p : Plan Fault X) (f g s : FilesSeen) (r : Result X (Stop Fault)) → f.held ≡ Some contents → ¬ Rose f.faults g.faults → Follows p f g r → Follows (over bytes p) s s (told_stop r)
  over_follows p f g s (Ok x) told calm follows = over_comes p s (Ok x) (determined contents p f g (Ok x) told follows)
  over_follows p f g s (Err (Refused why)) told calm follows = over_comes p s (Err (Refused why)) (determined contents p f g (Err (Refused why)) told follows)
  over_follows p f g s (Err (Read file)) told calm follows = absurd (calm (read_fault p f g file follows).rose)
  over_follows p f g s (Err (TooLong file limit)) told calm follows = over_comes p s (Err (TooLong file limit)) (determined contents p f g (Err (TooLong file limit)) told follows)
  over_follows p f g s (Err NoMemory) told calm follows = no_memory bytes p s

-- a count that stays nought didn't rise
calm : ¬ Rose 0 0
calm (inl less) = omega (arith, less)
calm (inr last) = omega (arith, last)

-- what was read of files in memory that never fail is what the plan over them gives
pub workload_follows : {X : Type 0} (held : List Held) (files : List File) → FilesHoldTheirBytes → map file_of held ≡ files → (p : Plan Fault X) (f g s : FilesSeen) (r : Result X (Stop Fault)) → f.held ≡ Some (held_or_empty held) →
    f.faults ≡ 0 → g.faults ≡ 0 → Follows p f g r → Follows (over (λ name. unwrap_or (bytes_in files name) []) p) s s (told_stop r)
workload_follows held files hold are p f g s r told none still follows =
    over_follows (λ name. unwrap_or (bytes_in files name) []) (held_or_empty held) (λ name. ap (λ z. Some (unwrap_or (z name) [])) (hold held ∙ ap bytes_in are)) p f g s r told
    (subst (λ n. ¬ Rose n g.faults) (sym none) (subst (λ n. ¬ Rose 0 n) (sym still) calm)) follows

-- the input of a workload
pub reads_workload : (held : List Held) (seed requests workers : ℕ) → FilesHoldTheirBytes → map file_of held ≡ files_of seed requests → (f g : FilesSeen) (r : Result Input (Stop Fault)) → f.held ≡ Some (held_or_empty held) → f.faults ≡ 0 → g.faults ≡ 0 →
    Follows (reading_of (workload_names workers)) f g r → (s : FilesSeen) → Follows (workload_reading seed requests workers) s s (told_stop r)
unfolding workload_reading
reads_workload held seed requests workers hold are f g r told none still follows s = workload_follows held (files_of seed requests) hold are (reading_of (workload_names workers)) f g s r told none still follows

pub no_memory_for : (seed requests workers : ℕ) (s : FilesSeen) → Follows (workload_reading seed requests workers) s s (Err NoMemory)
unfolding workload_reading
no_memory_for seed requests workers s = no_memory (λ name. unwrap_or (bytes_in (files_of seed requests) name) []) (reading_of (workload_names workers)) s
