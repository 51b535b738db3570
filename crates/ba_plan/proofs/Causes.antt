-- The causes of a plan's faults, whether the contents are told or not.
use Rattle.std.proofs.Common.{◌≡◌, ◌++◌, ◌∷◌, [], ◌∙◌, inl, inr, sym, ap, subst, ℕ, List, Err}
use Rattle.ba_outside.specs.Seen.{FilesSeen}
use Rattle.ba_outside.specs.Files.{PassesLimit}
use Rattle.ba_plan.specs.declared.stop.Stop.TheVariants.{Read, TooLong}
use Rattle.ba_plan.specs.Plan.{Plan, done, refuse, ask}
use Rattle.ba_plan.specs.Follows.{Asked, Follows}
use Rattle.ba_plan.specs.Ends.{IsLastAsked, FailedAt, LongAt}
use Rattle.ba_plan.proofs.Counts.{rose_after, passes_after}

-- the name of a call is the last one then
asked_last : (name file : List ℕ) (s t : FilesSeen) → file ≡ name → Asked name s t → IsLastAsked file t
asked_last name file s t e asked = record { earlier = s.asked; asked = asked.asked ∙ ap (λ z. s.asked ++ z ∷ []) (sym e) }

-- a read fault names the last name asked for, and the count rose
pub read_fault : {E X : Type 0} (p : Plan E X) (s t : FilesSeen) (file : List ℕ) → Follows p s t (Err (Read file)) → FailedAt file s t
read_fault (done x) s t file (h, same) = absurd h
read_fault (refuse e) s t file (h, same) = absurd h
read_fault (ask name limit next) s t file (inl (e, asked, rose)) = record { rose = rose; last = asked_last name file s t e asked }
read_fault (ask name limit next) s t file (inr (bytes, mid, got, goes)) =
    let rest = read_fault (next bytes) mid t file goes in
    record { rose = rose_after s.faults mid.faults t.faults got.asked.moved.faults rest.rose; last = rest.last }

-- a file that is too long is the last name asked for, and passes the limit
pub long_file : {E X : Type 0} (p : Plan E X) (s t : FilesSeen) (file : List ℕ) (n : ℕ) → Follows p s t (Err (TooLong file n)) → LongAt file n s t
long_file (done x) s t file n (h, same) = absurd h
long_file (refuse e) s t file n (h, same) = absurd h
long_file (ask name limit next) s t file n (inl (e, e', asked, passes, calm)) = record {
  passes = subst (λ z. PassesLimit s.held file z s.taken t.taken) (sym e') (subst (λ z. PassesLimit s.held z limit s.taken t.taken) (sym e) passes);
  last = asked_last name file s t e asked;
}
long_file (ask name limit next) s t file n (inr (bytes, mid, got, goes)) =
    let rest = long_file (next bytes) mid t file n goes in
    record {
      passes = passes_after s.held file n s.taken mid.taken t.taken got.asked.moved.taken
          (subst (λ z. PassesLimit z file n mid.taken t.taken) got.asked.moved.held rest.passes);
      last = rest.last;
    }
