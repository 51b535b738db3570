-- How lines go to a sink one after another, and which pieces are handed over for them.
use Rattle.std.proofs.Common.{◌≡◌, ◌<◌, ◌≤◌, ◌++◌, ◌∷◌, [], inl, inr, refl, sym, ap, ◌∙◌, subst, ℕ, List, Option, Some, None, Result, Ok, Err, take, drop, length, append_assoc, append-nil, arith}
use Rattle.std.proofs.lemmas.List.{take-append-drop}
use Rattle.std.proofs.lemmas.List.Folds.{concat-append}
use Rattle.std.specs.Io.KnownBytes.{Appends, Keeps}
use Rattle.std.specs.List.{concat}
use Rattle.ba_outside.specs.Causes.{Rose}
use Rattle.ba_outside.specs.Seen.{SinkSeen}
use Rattle.ba_outside.specs.Sink.{CountsFailure, Grows, Hands, pieces_of}
use Rattle.ba_outside.specs.declared.sink.WriteFail.{WriteFail}
use Rattle.ba_outside.specs.declared.sink.WriteFail.TheVariants.{Failed, NoMemory}
use Rattle.ba_plan.specs.Sent.{Wrote, Sent, Faultless, Rests, AllTaken, PartTaken, WroteLines, WroteLinesPart, SentLines}
use Rattle.ba_plan.proofs.Counts.{rose_after}
use Rattle.ba_plan.proofs.Sending.{wrote_none, wrote_kept, wrote_then}

-- some pieces and then others
grows_then : (o p q : Option (List (List ℕ))) (a b : List (List ℕ)) → Grows o p a → Grows p q b → Grows o q (a ++ b)
grows_then None p q a b h k = tt
grows_then (Some xs) None q a b h k = absurd h
grows_then (Some xs) (Some ys) None a b h k = absurd k
grows_then (Some xs) (Some ys) (Some zs) a b h k = k ∙ ap (λ v. v ++ b) h ∙ append_assoc xs a b

grows_same : (o : Option (List (List ℕ))) → Grows o o []
grows_same None = tt
grows_same (Some xs) = sym (append-nil xs)

pieces_of_some : (bytes : List ℕ) → ((bytes ≡ []) → ⊥) → pieces_of bytes ≡ bytes ∷ []
pieces_of_some [] h = absurd (h refl)
pieces_of_some (byte ∷ bytes) h = refl

pub some_of : (bytes : List ℕ) → 0 < length bytes → (bytes ≡ []) → ⊥
some_of [] h e = absurd (omega arith)
some_of (byte ∷ bytes) h e = cc

pub nil_of : (bytes : List ℕ) → length bytes ≡ 0 → bytes ≡ []
nil_of [] e = refl
nil_of (byte ∷ bytes) e = absurd (omega arith)

-- a rest was handed over and written whole
pub record GoesWhole (rest : List ℕ) (s t : SinkSeen) : Type 0 where
  pub pieces : List (List ℕ)
  pub rests : Rests rest pieces rest
  pub handed : Grows s.pieces t.pieces pieces
  pub wrote : Wrote rest s t
  pub faultless : Faultless s t

-- of a rest a front was handed over and written
pub record GoesPart (rest : List ℕ) (s t : SinkSeen) : Type 0 where
  pub pieces : List (List ℕ)
  pub front : List ℕ
  pub rests : Rests rest pieces front
  pub handed : Grows s.pieces t.pieces pieces
  pub wrote : Wrote front s t

-- what becomes of the rest of a line
abbrev pub Goes : {X : Type 0} → List ℕ → SinkSeen → SinkSeen → Result X WriteFail → Type 0
Goes rest s t (Ok x) = GoesWhole rest s t
Goes rest s t (Err Failed) = GoesPart rest s t × Rose s.faults t.faults
Goes rest s t (Err NoMemory) = GoesPart rest s t × Faultless s t

-- nothing is left
pub goes_done : (rest : List ℕ) (s : SinkSeen) → rest ≡ [] → GoesWhole rest s s
goes_done rest s e = subst (λ z. GoesWhole z s s) (sym e) (record { pieces = []; rests = refl; handed = grows_same s.pieces; wrote = wrote_none s; faultless = refl })

-- a part was written, without a fault
wrote_part : (s m : SinkSeen) (a : List ℕ) → Appends s.written m.written a → Faultless s m → Wrote a s m
wrote_part s m a written calm = record { written = written; faults = omega (arith, calm) }

part_step : (s m t : SinkSeen) (rest : List ℕ) (n : ℕ) → 0 < n → Grows s.pieces m.pieces (rest ∷ []) → Wrote (take n rest) s m → GoesPart (drop n rest) m t → GoesPart rest s t
part_step s m t rest n more handed wrote k = record {
  pieces = rest ∷ k.pieces;
  front = take n rest ++ k.front;
  rests = (refl, (n, k.front, refl, inl more, k.rests));
  handed = grows_then s.pieces m.pieces t.pieces (rest ∷ []) k.pieces handed k.handed;
  wrote = wrote_then s m t (take n rest) k.front wrote k.wrote;
}

-- a part of the rest was taken, and then what becomes of what is left
pub goes_step : {X : Type 0} (s m t : SinkSeen) (rest : List ℕ) (n : ℕ) (r : Result X WriteFail) → ((rest ≡ []) → ⊥) → 0 < n → Grows s.pieces m.pieces (pieces_of rest) → Appends s.written m.written (take n rest) → Faultless s m → Goes (drop n rest) m t r → Goes rest s t r
goes_step s m t rest n (Ok x) some more handed written calm k =
    let handed' = subst (λ z. Grows s.pieces m.pieces z) (pieces_of_some rest some) handed in
    record {
      pieces = rest ∷ k.pieces;
      rests = (refl, (n, drop n rest, sym (take-append-drop n rest), inl more, k.rests));
      handed = grows_then s.pieces m.pieces t.pieces (rest ∷ []) k.pieces handed' k.handed;
      wrote = subst (λ z. Wrote z s t) (take-append-drop n rest)
          (wrote_then s m t (take n rest) (drop n rest) (wrote_part s m (take n rest) written calm) k.wrote);
      faultless = k.faultless ∙ calm;
    }
goes_step s m t rest n (Err Failed) some more handed written calm k =
    let handed' = subst (λ z. Grows s.pieces m.pieces z) (pieces_of_some rest some) handed in
    let wrote = wrote_part s m (take n rest) written calm in
    (part_step s m t rest n more handed' wrote k.0, rose_after s.faults m.faults t.faults wrote.faults k.1)
goes_step s m t rest n (Err NoMemory) some more handed written calm k =
    let handed' = subst (λ z. Grows s.pieces m.pieces z) (pieces_of_some rest some) handed in
    (part_step s m t rest n more handed' (wrote_part s m (take n rest) written calm) k.0, k.1 ∙ calm)

-- the piece was handed over, and nothing of it taken
part_kept : (s t : SinkSeen) (rest : List ℕ) → ((rest ≡ []) → ⊥) → Grows s.pieces t.pieces (pieces_of rest) → Keeps s.written t.written → s.faults ≤ t.faults → GoesPart rest s t
part_kept s t rest some handed kept faults = record {
  pieces = rest ∷ [];
  front = [];
  rests = (refl, (0, [], refl, inr refl, refl));
  handed = subst (λ z. Grows s.pieces t.pieces z) (pieces_of_some rest some) handed;
  wrote = wrote_kept s t kept faults;
}

-- a call that fails ends the line
pub goes_err : (X Y : Type 0) (s t : SinkSeen) (rest : List ℕ) (e : WriteFail) → ((rest ≡ []) → ⊥) → Hands {X = Y} s.pieces t.pieces rest (Err e) → Keeps s.written t.written → s.faults ≤ t.faults → CountsFailure {X = Y} s.faults t.faults (Err e) → Goes {X = X} rest s t (Err e)
goes_err X Y s t rest Failed some handed kept faults rose = (part_kept s t rest some handed kept faults, rose)
goes_err X Y s t rest NoMemory some (inl none) kept faults calm = (
  record {
    pieces = [];
    front = [];
    rests = refl;
    handed = none;
    wrote = wrote_kept s t kept faults;
  },
  calm,
)
goes_err X Y s t rest NoMemory some (inr handed) kept faults calm = (part_kept s t rest some handed kept faults, calm)

-- a line is the only one
pub lines_one : {X : Type 0} (line : List ℕ) (s t : SinkSeen) (r : Result X WriteFail) → Goes line s t r → SentLines (line ∷ []) s t r
lines_one line s t (Ok x) h = record {
  pieces = h.pieces;
  taken = (h.pieces, [], sym (append-nil h.pieces), h.rests, refl);
  handed = h.handed;
  wrote = subst (λ z. Wrote z s t) (sym (append-nil line)) h.wrote;
  faultless = h.faultless;
}
lines_one line s t (Err Failed) (h, rose) = (record { pieces = h.pieces; front = h.front; taken = inl h.rests; handed = h.handed; wrote = h.wrote }, rose)
lines_one line s t (Err NoMemory) (h, calm) = (record { pieces = h.pieces; front = h.front; taken = inl h.rests; handed = h.handed; wrote = h.wrote }, calm)

-- all of some lines and all of others
all_then : (a b p q : List (List ℕ)) → AllTaken a p → AllTaken b q → AllTaken (a ++ b) (p ++ q)
all_then [] b p q h k = subst (λ z. AllTaken b (z ++ q)) (sym h) k
all_then (line ∷ a) b p q (first, later, e, rests, h) k =
    (first, later ++ q, ap (λ z. z ++ q) e ∙ append_assoc first later q, rests, all_then a b later q h k)

-- all of some lines and a front of others
all_then_part : (a b p q : List (List ℕ)) (front : List ℕ) → AllTaken a p → PartTaken b q front → PartTaken (a ++ b) (p ++ q) (concat a ++ front)
all_then_part [] b p q front h k = subst (λ z. PartTaken b (z ++ q) front) (sym h) k
all_then_part (line ∷ a) b p q front (first, later, e, rests, h) k = inr (
  first,
  later ++ q,
  concat a ++ front,
  ap (λ z. z ++ q) e ∙ append_assoc first later q,
  append_assoc line (concat a) front,
  rests,
  all_then_part a b later q front h k,
)

part_none : (lines : List (List ℕ)) → PartTaken lines [] []
part_none [] = (refl, refl)
part_none (line ∷ lines) = inl refl

-- a front of lines is one of those and more
part_more : (a b p : List (List ℕ)) (front : List ℕ) → PartTaken a p front → PartTaken (a ++ b) p front
part_more [] b p front (e, e') = subst (λ z. PartTaken b z front) (sym e) (subst (λ z. PartTaken b [] z) (sym e') (part_none b))
part_more (line ∷ a) b p front (inl rests) = inl rests
part_more (line ∷ a) b p front (inr (first, later, behind, e, e', rests, h)) = inr (first, later, behind, e, e', rests, part_more a b later behind h)

-- what was taken is a front of the line
rests_front : (rest : List ℕ) (pieces : List (List ℕ)) (front : List ℕ) → Rests rest pieces front → (back : List ℕ) × (rest ≡ front ++ back)
rests_front rest [] front e = (rest, ap (λ z. z ++ rest) (sym e))
rests_front rest (piece ∷ pieces) front (e, (n, later, e', more, rests)) =
    let k = rests_front (drop n rest) pieces later rests in
    (k.0, sym (take-append-drop n rest) ∙ ap (λ z. take n rest ++ z) k.1 ∙ sym (append_assoc (take n rest) later k.0) ∙ ap (λ z. z ++ k.0) (sym e'))

-- what was taken is a front of the lines
pub part_front : (lines pieces : List (List ℕ)) (front : List ℕ) → PartTaken lines pieces front → (back : List ℕ) × (concat lines ≡ front ++ back)
part_front [] pieces front (e, e') = ([], ap (λ z. z ++ []) (sym e'))
part_front (line ∷ lines) pieces front (inl rests) =
    let k = rests_front line pieces front rests in
    (k.0 ++ concat lines, ap (λ z. z ++ concat lines) k.1 ∙ append_assoc front k.0 (concat lines))
part_front (line ∷ lines) pieces front (inr (first, later, behind, e, e', rests, h)) =
    let k = part_front lines later behind h in
    (k.0, ap (λ z. line ++ z) k.1 ∙ sym (append_assoc line behind k.0) ∙ ap (λ z. z ++ k.0) (sym e'))

part_then : (s m t : SinkSeen) (a b : List (List ℕ)) → WroteLines a s m → WroteLinesPart b m t → WroteLinesPart (a ++ b) s t
part_then s m t a b h k = record {
  pieces = h.pieces ++ k.pieces;
  front = concat a ++ k.front;
  taken = all_then_part a b h.pieces k.pieces k.front h.taken k.taken;
  handed = grows_then s.pieces m.pieces t.pieces h.pieces k.pieces h.handed k.handed;
  wrote = wrote_then s m t (concat a) k.front h.wrote k.wrote;
}

part_longer : (s t : SinkSeen) (a b : List (List ℕ)) → WroteLinesPart a s t → WroteLinesPart (a ++ b) s t
part_longer s t a b h = record {
  pieces = h.pieces;
  front = h.front;
  taken = part_more a b h.pieces h.front h.taken;
  handed = h.handed;
  wrote = h.wrote;
}

-- the lines that were written, and then what becomes of the rest
pub lines_then : {X : Type 0} (s m t : SinkSeen) (a b : List (List ℕ)) (r : Result X WriteFail) → WroteLines a s m → SentLines b m t r → SentLines (a ++ b) s t r
lines_then s m t a b (Ok x) h k = record {
  pieces = h.pieces ++ k.pieces;
  taken = all_then a b h.pieces k.pieces h.taken k.taken;
  handed = grows_then s.pieces m.pieces t.pieces h.pieces k.pieces h.handed k.handed;
  wrote = subst (λ z. Wrote z s t) (sym (concat-append a b)) (wrote_then s m t (concat a) (concat b) h.wrote k.wrote);
  faultless = k.faultless ∙ h.faultless;
}
lines_then s m t a b (Err Failed) h k = (part_then s m t a b h k.0, rose_after s.faults m.faults t.faults h.wrote.faults k.1)
lines_then s m t a b (Err NoMemory) h k = (part_then s m t a b h k.0, k.1 ∙ h.faultless)

-- where lines ended early, so did any that begin with them
pub lines_err : (X Y : Type 0) (s t : SinkSeen) (a b : List (List ℕ)) (e : WriteFail) → SentLines {X = X} a s t (Err e) → SentLines {X = Y} (a ++ b) s t (Err e)
lines_err X Y s t a b Failed (h, rose) = (part_longer s t a b h, rose)
lines_err X Y s t a b NoMemory (h, calm) = (part_longer s t a b h, calm)

-- no line is written
pub lines_none : (s : SinkSeen) → WroteLines [] s s
lines_none s = record { pieces = []; taken = refl; handed = grows_same s.pieces; wrote = wrote_none s; faultless = refl }

-- nothing of the lines, and memory ran out
pub lines_no_memory : (X : Type 0) (s : SinkSeen) (a : List (List ℕ)) → SentLines {X = X} a s s (Err NoMemory)
lines_no_memory X s a = (record { pieces = []; front = []; taken = part_none a; handed = grows_same s.pieces; wrote = wrote_none s }, refl)

-- lines are sent as their text
pub lines_sent : {X : Type 0} (s t : SinkSeen) (lines : List (List ℕ)) (r : Result X WriteFail) → SentLines lines s t r → Sent (concat lines) s t r
lines_sent s t lines (Ok x) h = (h.wrote, h.faultless)
lines_sent s t lines (Err Failed) (h, rose) =
    let k = part_front lines h.pieces h.front h.taken in
    (record { front = h.front; back = k.0; whole = k.1; wrote = h.wrote }, rose)
lines_sent s t lines (Err NoMemory) (h, calm) =
    let k = part_front lines h.pieces h.front h.taken in
    (record { front = h.front; back = k.0; whole = k.1; wrote = h.wrote }, calm)
