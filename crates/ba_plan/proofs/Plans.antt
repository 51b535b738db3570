-- How plans go on.
use Rattle.std.proofs.Common.{◌≡◌, ◌∙◌, inl, inr, refl, sym, ap, subst, ℕ, List, Result, Ok, Err, arith}
use Rattle.ba_outside.specs.Seen.{FilesSeen}
use Rattle.ba_plan.specs.declared.stop.Stop.{Stop}
use Rattle.ba_plan.specs.declared.stop.Stop.TheVariants.{Refused, Read, TooLong, NoMemory}
use Rattle.ba_plan.specs.Plan.{Plan, done, refuse, ask, found, ◌>>=◌}
use Rattle.ba_plan.specs.Follows.{Moved, Missed, Follows, Gives}

-- files have moved to where they are
pub moved_none : (s : FilesSeen) → Moved s s
moved_none s = record { held = refl; taken = omega arith; faults = omega arith }

pub moved_same : (s t : FilesSeen) → t ≡ s → Moved s t
moved_same s t e = subst (λ z. Moved s z) (sym e) (moved_none s)

pub moved_then : (s m t : FilesSeen) → Moved s m → Moved m t → Moved s t
moved_then s m t h k = record {
  held = k.held ∙ h.held;
  taken = let a = h.taken in let b = k.taken in omega arith;
  faults = let a = h.faults in let b = k.faults in omega arith;
}

missed_moved : {E : Type 0} (name : List ℕ) (limit : ℕ) (s t : FilesSeen) (e : Stop E) → Missed name limit s t e → Moved s t
missed_moved name limit s t (Read file) (e, asked, rose) = asked.moved
missed_moved name limit s t (TooLong file n) (e, e', asked, passes, calm) = asked.moved
missed_moved name limit s t (Refused e) missed = absurd missed
missed_moved name limit s t NoMemory (moved, asked) = moved

-- a plan leaves what the files hold, and no count falls
pub follows_moved : {E X : Type 0} (p : Plan E X) (s t : FilesSeen) (r : Result X (Stop E)) → Follows p s t r → Moved s t
follows_moved (done x) s t r (h, same) = moved_same s t same
follows_moved (refuse e) s t r (h, same) = moved_same s t same
follows_moved (ask name limit next) s t (Ok x) (inl missed) = absurd missed
follows_moved (ask name limit next) s t (Err e) (inl missed) = missed_moved name limit s t e missed
follows_moved (ask name limit next) s t r (inr (bytes, mid, got, goes)) = moved_then s mid t got.asked.moved (follows_moved (next bytes) mid t r goes)

-- want of memory may come at once
pub memory_now : {E X : Type 0} (p : Plan E X) (s : FilesSeen) → Follows p s s (Err NoMemory)
memory_now (done x) s = (tt, refl)
memory_now (refuse e) s = (tt, refl)
memory_now (ask name limit next) s = inl (moved_none s, inl refl)

-- a reading that gave a value goes on with it
pub found_ok : {E A B : Type 0} (read : Result A E) (f : A → Plan E B) (s t : FilesSeen) (r : Result B (Stop E)) (x : A) → read ≡ Ok x → Follows (f x) s t r → Follows (found read >>= f) s t r
found_ok read f s t r x e h = subst (λ z. Follows (found z >>= f) s t r) (sym e) h

-- a reading that gave none ends the plan
pub found_err : {E B : Type 0} (A : Type 0) (read : Result A E) (f : A → Plan E B) (s : FilesSeen) (e : Stop E) → Gives {X = A} (Err e) read → Follows (found read >>= f) s s (Err e)
found_err A read f s (Refused e) h = subst (λ z. Follows (found z >>= f) s s (Err (Refused e))) (sym h) (refl, refl)
found_err A read f s (Read file) h = absurd h
found_err A read f s (TooLong file limit) h = absurd h
found_err A read f s NoMemory h = memory_now (found read >>= f) s

-- a plan that is done goes on by the next
pub then_ok : {E A B : Type 0} (p : Plan E A) (f : A → Plan E B) (s m t : FilesSeen) (x : A) (r : Result B (Stop E)) → Follows p s m (Ok x) → Follows (f x) m t r → Follows (p >>= f) s t r
then_ok (done y) f s m t x r (e, same) rest =
    let e' : x ≡ y = cc in
    subst (λ z. Follows (f z) s t r) e' (subst (λ z. Follows (f x) z t r) same rest)
then_ok (refuse y) f s m t x r (e, same) rest = absurd (cc)
then_ok (ask name limit next) f s m t x r (inl missed) rest = absurd missed
then_ok (ask name limit next) f s m t x r (inr (bytes, mid, got, goes)) rest = inr (bytes, mid, got, then_ok (next bytes) f mid m t x r goes rest)

-- a plan that ends without an answer ends the whole
pub then_err : {E A B : Type 0} (p : Plan E A) (f : A → Plan E B) (s t : FilesSeen) (e : Stop E) → Follows p s t (Err e) → Follows (p >>= f) s t (Err e)
then_err (done y) f s t (Refused e) (h, same) = absurd (cc)
then_err (done y) f s t (Read file) (h, same) = absurd h
then_err (done y) f s t (TooLong file limit) (h, same) = absurd h
then_err (done y) f s t NoMemory (h, same) = subst (λ z. Follows (f y) s z (Err NoMemory)) (sym same) (memory_now (f y) s)
then_err (refuse y) f s t (Refused other) (h, same) = let e : y ≡ other = cc in (ap Err e, same)
then_err (refuse y) f s t (Read file) (h, same) = absurd h
then_err (refuse y) f s t (TooLong file limit) (h, same) = absurd h
then_err (refuse y) f s t NoMemory (h, same) = (tt, same)
then_err (ask name limit next) f s t e (inl missed) = inl missed
then_err (ask name limit next) f s t e (inr (bytes, mid, got, goes)) = inr (bytes, mid, got, then_err (next bytes) f mid t e goes)
