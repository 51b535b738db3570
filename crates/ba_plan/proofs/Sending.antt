-- How texts go to a sink one after another.
use Rattle.std.proofs.Common.{◌≤◌, ◌++◌, [], refl, sym, ap, ◌∙◌, ℕ, List, Option, Some, None, Result, Ok, Err, arith, append_assoc, append-nil}
use Rattle.std.specs.Io.KnownBytes.{Appends, Keeps}
use Rattle.ba_outside.specs.Seen.{SinkSeen}
use Rattle.ba_outside.specs.declared.sink.WriteFail.{WriteFail}
use Rattle.ba_outside.specs.declared.sink.WriteFail.TheVariants.{Failed, NoMemory}
use Rattle.ba_plan.specs.Sent.{Wrote, WrotePart, Sent, Faultless}
use Rattle.ba_plan.proofs.Counts.{rose_after}

-- one text and then another
appends_then : (o p q : Option (List ℕ)) (a b : List ℕ) → Appends o p a → Appends p q b → Appends o q (a ++ b)
appends_then None p q a b h k = tt
appends_then (Some xs) None q a b h k = absurd h
appends_then (Some xs) (Some ys) None a b h k = absurd k
appends_then (Some xs) (Some ys) (Some zs) a b h k = k ∙ ap (λ v. v ++ b) h ∙ append_assoc xs a b

-- what is kept has grown by nothing
appends_none : (o p : Option (List ℕ)) → Keeps o p → Appends o p []
appends_none None p h = tt
appends_none (Some xs) None h = absurd h
appends_none (Some xs) (Some ys) h = h ∙ sym (append-nil xs)

keeps_same : (o : Option (List ℕ)) → Keeps o o
keeps_same None = tt
keeps_same (Some xs) = refl

-- nothing was written
pub wrote_none : (s : SinkSeen) → Wrote [] s s
wrote_none s = record { written = appends_none s.written s.written (keeps_same s.written); faults = omega arith }

-- nothing more than before the call
pub wrote_kept : (s t : SinkSeen) → Keeps s.written t.written → s.faults ≤ t.faults → Wrote [] s t
wrote_kept s t k h = record { written = appends_none s.written t.written k; faults = h }

-- one text and then another
pub wrote_then : (s m t : SinkSeen) (a b : List ℕ) → Wrote a s m → Wrote b m t → Wrote (a ++ b) s t
wrote_then s m t a b h k = record {
  written = appends_then s.written m.written t.written a b h.written k.written;
  faults = let p = h.faults in let q = k.faults in omega arith;
}

part_then : (s m t : SinkSeen) (a b : List ℕ) → Wrote a s m → WrotePart b m t → WrotePart (a ++ b) s t
part_then s m t a b h k = record {
  front = a ++ k.front;
  back = k.back;
  whole = ap (λ v. a ++ v) k.whole ∙ sym (append_assoc a k.front k.back);
  wrote = wrote_then s m t a k.front h k.wrote;
}

part_longer : (s t : SinkSeen) (a b : List ℕ) → WrotePart a s t → WrotePart (a ++ b) s t
part_longer s t a b h = record {
  front = h.front;
  back = h.back ++ b;
  whole = ap (λ v. v ++ b) h.whole ∙ append_assoc h.front h.back b;
  wrote = h.wrote;
}

-- what was written, and then what becomes of the rest
pub sent_then : {X : Type 0} (s m t : SinkSeen) (a b : List ℕ) (r : Result X WriteFail) → Wrote a s m → Faultless s m → Sent b m t r → Sent (a ++ b) s t r
sent_then s m t a b (Ok x) h calm k = (wrote_then s m t a b h k.0, k.1 ∙ calm)
sent_then s m t a b (Err Failed) h calm k = (part_then s m t a b h k.0, rose_after s.faults m.faults t.faults h.faults k.1)
sent_then s m t a b (Err NoMemory) h calm k = (part_then s m t a b h k.0, k.1 ∙ calm)

-- where a text ended early, so did any that begins with it
pub sent_err : (X Y : Type 0) (s t : SinkSeen) (a b : List ℕ) (e : WriteFail) → Sent {X = X} a s t (Err e) → Sent {X = Y} (a ++ b) s t (Err e)
sent_err X Y s t a b Failed (h, rose) = (part_longer s t a b h, rose)
sent_err X Y s t a b NoMemory (h, calm) = (part_longer s t a b h, calm)

-- nothing of it, and memory ran out
pub sent_no_memory : (X : Type 0) (s : SinkSeen) (a : List ℕ) → Sent {X = X} a s s (Err NoMemory)
sent_no_memory X s a = (record { front = []; back = a; whole = refl; wrote = wrote_none s }, refl)
