-- What a write to a sink in memory leaves.
use Rattle.std.proofs.Common.{◌≡◌, ℕ, ◌+◌, min, false, cond, eqb, List, [], ◌∷◌, ◌++◌, length, Option, Some, Result, Ok, Err, inr, refl, ap, ◌∙◌}
use Rattle.std.proofs.lemmas.List.{map-append}
use Rattle.std.specs.Prelude.{Vec}
use Rattle.std.specs.Result.{is_err, is_ok}
use Rattle.std.specs.declared.alloc.Global.{Global}
use Rattle.ba_outside.specs.Causes.{last_count}
use Rattle.ba_outside.specs.MemSink.{calls_after}
use Rattle.ba_outside.specs.Sink.{Grows, Hands, lists_of, pieces_of}
use Rattle.ba_outside.specs.declared.sink.WriteFail.{WriteFail}
use Rattle.ba_outside.specs.declared.sink.WriteFail.TheVariants.{Failed, NoMemory}

pub one_call : (calls : ℕ) (bytes : List ℕ) → eqb (length bytes) 0 ≡ false → min (calls + 1) last_count ≡ calls_after calls bytes
one_call calls [] some = cc some
one_call calls (byte ∷ bytes) some = refl

pushed : {T E A : Type 0} (r : Result T E) (all more old : A) → all ≡ cond (is_ok r) more old → is_err r ≡ false → all ≡ more
pushed (Ok x) all more old e ok = e
pushed (Err x) all more old e ok = cc ok

pub one_piece : {T E : Type 0} (r : Result T E) (pieces all : List (Vec ℕ Global)) (piece : Vec ℕ Global) (bytes : List ℕ) → eqb (length bytes) 0 ≡ false → piece.items ≡ bytes
    → all ≡ cond (is_ok r) (pieces ++ piece ∷ []) pieces → is_err r ≡ false → Grows (Some (lists_of pieces)) (Some (lists_of all)) (pieces_of bytes)
one_piece r pieces all piece [] some same e ok = cc some
one_piece r pieces all piece (byte ∷ bytes) some same e ok =
    ap lists_of (pushed r all (pieces ++ piece ∷ []) pieces e ok) ∙ map-append (λ (p : Vec ℕ Global). p.items) pieces (piece ∷ []) ∙ ap (λ (last : List ℕ). lists_of pieces ++ last ∷ []) same

pub handed : {X : Type 0} (old new : Option (List (List ℕ))) (piece : List ℕ) (r : Result X WriteFail) → Grows old new (pieces_of piece) → Hands old new piece r
handed old new piece (Ok x) h = h
handed old new piece (Err Failed) h = h
handed old new piece (Err NoMemory) h = inr h
