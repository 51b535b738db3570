-- The tokens of the lines of few members, and what they read as.
use Rattle.std.proofs.Common.{◌≡◌, ℕ, ◌<◌, ◌≤◌, ◌^◌, List, [], ◌∷◌, codes, Some, refl, arith}
use Rattle.json.specs.Token.{Token, begin_object, end_object, key}
use Rattle.json.specs.Written.{Written}
use Rattle.serde_json.specs.Data.{depth}
use Rattle.serde_json.specs.Read.{max_depth, of_json}
use Rattle.serde_json.specs.Written.{outline}
use Rattle.serde_json.proofs.Numbers.{number_of-decimal}
use Rattle.std.specs.Fmt.{decimal}
use Rattle.ba_wire.specs.Appended.{Adds, Puts}
use Rattle.ba_wire.specs.Printed.{begin, block, end, json_of}
use Rattle.ba_wire.specs.declared.line.Block.TheVariants.{Refuted}
use Rattle.ba_wire.proofs.AnswerLemmas.{puts_then}

begin_reads : (request : List ℕ) (line version : ℕ) → line < 2 ^ 64 → version < 2 ^ 64 → of_json (outline (json_of (begin request line version))) ≡ Some (json_of (begin request line version))
unfolding json_of
begin_reads request line version fits small = rw (number_of-decimal line fits, number_of-decimal version small) refl

pub begin_added : (request : List ℕ) (line version : ℕ) {start opened named numbered versioned last : Written} → line < 2 ^ 64 → version < 2 ^ 64 → Puts (begin_object ∷ []) start opened → Puts (key (codes "begin") ∷ Token.string request ∷ []) opened named
    → Puts (key (codes "line") ∷ Token.number (decimal line) ∷ []) named numbered → Puts (key (codes "version") ∷ Token.number (decimal version) ∷ []) numbered versioned → Puts (end_object ∷ []) versioned last → Adds (json_of (begin request line version)) start last
unfolding json_of
begin_added request line version fits small bracket first second third close =
    let puts = puts_then (puts_then (puts_then (puts_then bracket first) second) third) close in
    record { before = puts.before; tokens = puts.tokens; reads = begin_reads request line version fits small }

end_reads : (request : List ℕ) (line : ℕ) → line < 2 ^ 64 → of_json (outline (json_of (end request line))) ≡ Some (json_of (end request line))
unfolding json_of
end_reads request line fits = rw (number_of-decimal line fits) refl

pub end_added : (request : List ℕ) (line : ℕ) {start opened named numbered last : Written} → line < 2 ^ 64 → Puts (begin_object ∷ []) start opened → Puts (key (codes "end") ∷ Token.string request ∷ []) opened named → Puts (key (codes "line") ∷ Token.number (decimal line) ∷ []) named numbered → Puts (end_object ∷ []) numbered last
    → Adds (json_of (end request line)) start last
unfolding json_of
end_added request line fits bracket first second close =
    let puts = puts_then (puts_then (puts_then bracket first) second) close in
    record { before = puts.before; tokens = puts.tokens; reads = end_reads request line fits }

refuted_reads : (line : ℕ) (request : List ℕ) (version : ℕ) → line < 2 ^ 64 → version < 2 ^ 64 → of_json (outline (json_of (block Refuted line request version))) ≡ Some (json_of (block Refuted line request version))
unfolding json_of
refuted_reads line request version fits small = rw (number_of-decimal line fits, number_of-decimal version small) refl

pub refuted_added : (line : ℕ) (request : List ℕ) (version : ℕ) {start opened named numbered asked versioned last : Written} → line < 2 ^ 64 → version < 2 ^ 64 → Puts (begin_object ∷ []) start opened → Puts (key (codes "blocked") ∷ Token.string (codes "refuted") ∷ []) opened named
    → Puts (key (codes "line") ∷ Token.number (decimal line) ∷ []) named numbered → Puts (key (codes "request") ∷ Token.string request ∷ []) numbered asked → Puts (key (codes "version") ∷ Token.number (decimal version) ∷ []) asked versioned → Puts (end_object ∷ []) versioned last
    → Adds (json_of (block Refuted line request version)) start last
unfolding json_of
refuted_added line request version fits small bracket first second third fourth close =
    let puts = puts_then (puts_then (puts_then (puts_then (puts_then bracket first) second) third) fourth) close in
    record { before = puts.before; tokens = puts.tokens; reads = refuted_reads line request version fits small }

-- ---- none of them is deep

pub begin_shallow : (request : List ℕ) (line version : ℕ) → depth (json_of (begin request line version)) ≤ max_depth
unfolding json_of
begin_shallow request line version = omega arith

pub end_shallow : (request : List ℕ) (line : ℕ) → depth (json_of (end request line)) ≤ max_depth
unfolding json_of
end_shallow request line = omega arith

pub refuted_shallow : (line : ℕ) (request : List ℕ) (version : ℕ) → depth (json_of (block Refuted line request version)) ≤ max_depth
unfolding json_of
refuted_shallow line request version = omega arith
