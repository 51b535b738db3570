-- Whether the rows of entries have room, entry by entry.
use Rattle.std.proofs.Common.{◌≡◌, ◌∙◌, ℕ, ◌+◌, ◌<◌, List, [], ◌∷◌, ◌++◌, length, drop, take, false, is_some, Option, Some, None, refl, sym, ap}
use Rattle.std.specs.List.{slice_get}
use Rattle.std.proofs.lemmas.List.{take_more}
use Rattle.std.proofs.lemmas.Option.{get_or_from_slice_get, slice_get_within}
use Rattle.std.specs.Option.{option_and_then}
use Rattle.std.specs.Prelude.{slice_index_or}
use Rattle.std.proofs.lemmas.List.{at_drop_more}
use Rattle.ba_comply.specs.declared.trace.TraceEntry.{TraceEntry}
use Rattle.ba_live.specs.Contradicting.{room_after, room_behind}

then_then : {A B C : Type 0} (o : Option A) (f : A → Option B) (g : B → Option C)
    → option_and_then (λ x. option_and_then g (f x)) o ≡ option_and_then g (option_and_then f o)
then_then None f g = refl
then_then (Some x) f g = refl

same_then : {A B : Type 0} (o : Option A) (f g : A → Option B) → ((x : A) → f x ≡ g x) → option_and_then f o ≡ option_and_then g o
same_then None f g h = refl
same_then (Some x) f g h = h x

pub room_append : (room : ℕ) (old new : List TraceEntry) → room_after room (old ++ new) ≡ option_and_then (λ left. room_after left new) (room_after room old)
room_append room [] new = refl
room_append room (entry ∷ old) new =
    same_then (room_behind room (length entry.rows)) (λ left. room_after left (old ++ new)) (λ left. option_and_then (λ more. room_after more new) (room_after left old))
    (λ left. room_append left old new)
    ∙ then_then (room_behind room (length entry.rows)) (λ left. room_after left old) (λ more. room_after more new)

at_entry : (room : ℕ) (entries : List TraceEntry) (i : ℕ) (entry : TraceEntry) → i < length entries → entry ≡ slice_index_or entries i entry
    → room_after room (drop i entries) ≡ option_and_then (λ left. room_after left (drop (i + 1) entries)) (room_behind room (length entry.rows))
at_entry room entries i entry lt is =
    at_drop_more (room_after room) entries i entry lt
    ∙ ap (λ (x : TraceEntry). option_and_then (λ left. room_after left (drop (i + 1) entries)) (room_behind room (length x.rows))) (sym is)

pub room_more : (room left : ℕ) (entries : List TraceEntry) (i : ℕ) (entry : TraceEntry) (whole : Option ℕ) → i < length entries → entry ≡ slice_index_or entries i entry
    → room_after room (drop i entries) ≡ whole → room_behind room (length entry.rows) ≡ Some left → room_after left (drop (i + 1) entries) ≡ whole
room_more room left entries i entry whole lt is before e =
    sym (ap (option_and_then (λ more. room_after more (drop (i + 1) entries))) e) ∙ sym (at_entry room entries i entry lt is) ∙ before

pub room_ends : (room : ℕ) (entries : List TraceEntry) (i : ℕ) (entry : TraceEntry) (whole : Option ℕ) → i < length entries → entry ≡ slice_index_or entries i entry
    → room_after room (drop i entries) ≡ whole → room_behind room (length entry.rows) ≡ None → None ≡ whole
room_ends room entries i entry whole lt is before e =
    sym (ap (option_and_then (λ more. room_after more (drop (i + 1) entries))) e) ∙ sym (at_entry room entries i entry lt is) ∙ before

-- the same of an entry that stands at its place
pub room_more_at : (room left : ℕ) (entries : List TraceEntry) (i : ℕ) (entry : TraceEntry) (whole : Option ℕ) → slice_get entries i ≡ Some entry
    → room_after room (drop i entries) ≡ whole → room_behind room (length entry.rows) ≡ Some left → room_after left (drop (i + 1) entries) ≡ whole
room_more_at room left entries i entry whole at before e =
    room_more room left entries i entry whole (slice_get_within entries i entry at) (sym (get_or_from_slice_get entries i entry entry at)) before e

pub room_ends_at : (room : ℕ) (entries : List TraceEntry) (i : ℕ) (entry : TraceEntry) (whole : Option ℕ) → slice_get entries i ≡ Some entry
    → room_after room (drop i entries) ≡ whole → room_behind room (length entry.rows) ≡ None → None ≡ whole
room_ends_at room entries i entry whole at before e =
    room_ends room entries i entry whole (slice_get_within entries i entry at) (sym (get_or_from_slice_get entries i entry entry at)) before e

pub few_behind : (most room : ℕ) (old new : List TraceEntry) (o : Option ℕ) → o ≡ room_after most old → o ≡ Some room
    → is_some (room_after room new) ≡ is_some (room_after most (old ++ new))
few_behind most room old new o is some = ap is_some (sym (room_append most old new ∙ ap (option_and_then (λ left. room_after left new)) (sym is ∙ some)))

pub none_few : (most : ℕ) (old new : List TraceEntry) (o : Option ℕ) → o ≡ room_after most old → o ≡ None → false ≡ is_some (room_after most (old ++ new))
none_few most old new o is none = ap is_some (sym (room_append most old new ∙ ap (option_and_then (λ left. room_after left new)) (sym is ∙ none)))

pub joins_more : (trace all new : List TraceEntry) (i : ℕ) (entry copied : TraceEntry) → slice_get trace i ≡ Some entry → copied ≡ entry → all ≡ take i trace → new ≡ all ++ copied ∷ []
    → new ≡ take (i + 1) trace
joins_more trace all new i entry copied at same before pushed =
    pushed ∙ ap (λ (es : List TraceEntry). es ++ copied ∷ []) before ∙ ap (λ (e : TraceEntry). take i trace ++ e ∷ []) (same ∙ sym (get_or_from_slice_get trace i entry entry at))
    ∙ sym (take_more trace i entry (slice_get_within trace i entry at))
