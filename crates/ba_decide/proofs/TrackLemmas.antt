-- What is recorded of a request is what lines told it.
use Rattle.std.proofs.Common.{◌≡◌, ◌∙◌, ℕ, zero, suc, ◌<◌, List, [], ◌∷◌, ◌++◌, Bool, true, false, Some, None, Ok, length, slice_get, refl, sym, ap, subst, inl, inr, ◌⊎◌, arith}
use Rattle.std.proofs.lemmas.List.Elements.{All-weaker}
use Rattle.std.proofs.lemmas.Option.{slice_get_within}
use Rattle.std.specs.Str.{bytes_eq}
use Rattle.ba_event.specs.Events.{event_of}
use Rattle.ba_event.specs.declared.event.Event.{Event}
use Rattle.ba_event.specs.declared.event.Event.TheVariants as event
use Rattle.ba_live.proofs.BookLemmas.{bytes_same, none_some, same_some}
use Rattle.ba_live.specs.Books.{asked_at, open_at}
use Rattle.ba_live.specs.Laws.{RecordsTold, ToldRows}
use Rattle.ba_live.specs.declared.decision.Decision.{Decision}
use Rattle.ba_live.specs.declared.decision.Decision.TheVariants as decided
use Rattle.ba_live.specs.declared.live.Live.{Live}
use Rattle.ba_live.specs.declared.open.Asked.{Asked}
use Rattle.ba_live.specs.declared.open.Open.{Open}
use Rattle.ba_model.specs.declared.policy.Context.{Context}
use Rattle.ba_model.specs.declared.policy.Policy.{Policy}
use Rattle.ba_model.specs.declared.query.Query.{Query}
use Rattle.ba_script.specs.Contexts.{context_of}
use Rattle.ba_script.specs.declared.line.Member.{Member}
use Rattle.ba_decide.specs.Journal.{Entry, said}
use Rattle.ba_decide.specs.Told.{At, BeganAt, IsAsker, Turns, WasAllowed, WasTold}
use Rattle.ba_decide.specs.Told.Turns.{begins, ends}

-- ---- places

pub get_front : {X : Type 0} (xs ys : List X) (n : ℕ) (x : X) → slice_get xs n ≡ Some x → slice_get (xs ++ ys) n ≡ Some x
get_front [] ys n x e = absurd (cc)
get_front (y ∷ xs) ys zero x e = e
get_front (y ∷ xs) ys (suc n) x e = get_front xs ys n x e

pub get_end : {X : Type 0} (xs : List X) (x : X) → slice_get (xs ++ x ∷ []) (length xs) ≡ Some x
get_end [] x = refl
get_end (y ∷ xs) x = get_end xs x

pub get_last : {X : Type 0} (xs : List X) (y : X) (n : ℕ) (x : X) → slice_get (xs ++ y ∷ []) n ≡ Some x → (slice_get xs n ≡ Some x) ⊎ ((n ≡ length xs) × (y ≡ x))
get_last [] y zero x e = inr (refl, same_some y x e)
get_last [] y (suc n) x e = absurd (none_some x None refl e)
get_last (z ∷ xs) y zero x e = inl e
get_last (z ∷ xs) y (suc n) x e = by (get_last xs y n x e)
  where
    by : (slice_get xs n ≡ Some x) ⊎ ((n ≡ length xs) × (y ≡ x)) → (slice_get xs n ≡ Some x) ⊎ ((suc n ≡ suc (length xs)) × (y ≡ x))
    by (inl e) = inl e
    by (inr (e, same)) = inr (ap suc e, same)

both_ways : (b : Bool) → b ≡ true → b ≡ false → ⊥
both_ways b t f = cc

pub not_same : (a b : List ℕ) → bytes_eq a b ≡ false → a ≡ b → ⊥
not_same a b f same = both_ways (bytes_eq a b) (subst (λ n. bytes_eq a n ≡ true) same (bytes_same a)) f

-- ---- what an entry says by itself

pub record Says (e : Entry) (it : Event) (d : Decision) : Type 0 where
  pub bytes : List ℕ
  pub heard : e.heard ≡ said bytes
  pub says : event_of bytes ≡ Ok it
  pub decision_is : e.decision ≡ d

pub same_said : (a b : List ℕ) → said a ≡ said b → a ≡ b
same_said a b e = cc

pub same_event : (a b : Event) (r s : List ℕ) → r ≡ s → event_of r ≡ Ok a → event_of s ≡ Ok b → a ≡ b
same_event a b r s e x y = let z : event_of r ≡ Ok b = ap event_of e ∙ y in cc

-- an entry says one event
pub says_one : (e : Entry) (a b : Event) (d f : Decision) → Says e a d → Says e b f → a ≡ b
says_one e a b d f x y = same_event a b x.bytes y.bytes (same_said x.bytes y.bytes (sym x.heard ∙ y.heard)) x.says y.says

begin_name : (n m : List ℕ) (a b : List Member) → event.Begin n a ≡ event.Begin m b → n ≡ m
begin_name n m a b e = cc

end_name : (n m : List ℕ) → event.End n ≡ event.End m → n ≡ m
end_name n m e = cc

-- the entry begins or ends the name
pub data TurnsHere (e : Entry) (name : List ℕ) : Type 0 where
  begun : (members : List Member) → Says e (event.Begin name members) decided.Begun → TurnsHere e name
  ended : Says e (event.End name) decided.Ended → TurnsHere e name

pub quiet : (e : Entry) (name : List ℕ) → (e.decision ≡ decided.Begun → ⊥) → (e.decision ≡ decided.Ended → ⊥) → TurnsHere e name → ⊥
quiet e name b n (begun members says) = b says.decision_is
quiet e name b n (ended says) = n says.decision_is

-- where it begins one name, it turns no other
pub quiet_begin : (e : Entry) (name other : List ℕ) (members : List Member) → Says e (event.Begin name members) decided.Begun → bytes_eq name other ≡ false → TurnsHere e other → ⊥
quiet_begin e name other members says away (begun theirs other_says) = not_same name other away (begin_name name other members theirs (says_one e _ _ _ _ says other_says))
quiet_begin e name other members says away (ended other_says) = let z : decided.Begun ≡ decided.Ended = sym says.decision_is ∙ other_says.decision_is in cc

pub quiet_end : (e : Entry) (name other : List ℕ) → Says e (event.End name) decided.Ended → bytes_eq name other ≡ false → TurnsHere e other → ⊥
quiet_end e name other says away (begun members other_says) = let z : decided.Ended ≡ decided.Begun = sym says.decision_is ∙ other_says.decision_is in cc
quiet_end e name other says away (ended other_says) = not_same name other away (end_name name other (says_one e _ _ _ _ says other_says))

-- ---- what is tracked

-- what is open is an asker of these lines, and its questions that may be told were allowed in them
pub record Tracked (policy : Policy) (journal : List Entry) (it : Live) (name : List ℕ) (asker : Open) : Type 0 where
  pub asker_is : IsAsker policy journal name asker.context asker.trace
  pub questions : (line : ℕ) (question : Asked) → asked_at it line ≡ Some question → question.name ≡ name → WasAllowed policy journal name asker_is.began line question.query

pub record Tracks (policy : Policy) (journal : List Entry) (it : Live) : Type 0 where
  pub each : (name : List ℕ) (asker : Open) → open_at it name ≡ Some asker → Tracked policy journal it name asker
  pub owned : (line : ℕ) (question : Asked) → asked_at it line ≡ Some question → (asker : Open) × (open_at it question.name ≡ Some asker)

-- ---- one more entry

module _ (policy : Policy) (journal : List Entry) (e : Entry) where
  pub at_more : (place : ℕ) (it : Event) (d : Decision) → At journal place it d → At (journal ++ e ∷ []) place it d
  at_more place it d at =
      record { entry = at.entry; there = get_front journal (e ∷ []) place at.entry at.there; bytes = at.bytes; heard = at.heard; says = at.says; decision_is = at.decision_is }

  pub at_here : (it : Event) (d : Decision) → Says e it d → At (journal ++ e ∷ []) (length journal) it d
  at_here it d says = record { entry = e; there = get_end journal e; bytes = says.bytes; heard = says.heard; says = says.says; decision_is = says.decision_is }

  -- an entry of the longer journal is one of the shorter, or the last
  pub at_cases : (place : ℕ) (it : Event) (d : Decision) → At (journal ++ e ∷ []) place it d → At journal place it d ⊎ ((place ≡ length journal) × Says e it d)
  at_cases place it d at =
      elim (get_last journal e place at.entry at.there) [
        | inl there ↦ inl (record { entry = at.entry; there = there; bytes = at.bytes; heard = at.heard; says = at.says; decision_is = at.decision_is })
        | inr last ↦
            inr (
              last.0,
              record {
                bytes = at.bytes;
                heard = ap (λ (x : Entry). x.heard) last.1 ∙ at.heard;
                says = at.says;
                decision_is = ap (λ (x : Entry). x.decision) last.1 ∙ at.decision_is;
              },
            )
      ]

  pub at_within : (place : ℕ) (it : Event) (d : Decision) → At journal place it d → place < length journal
  at_within place it d at = slice_get_within journal place at.entry at.there

  turn_cases : (name : List ℕ) (place : ℕ) → Turns (journal ++ e ∷ []) name place → Turns journal name place ⊎ ((place ≡ length journal) × TurnsHere e name)
  turn_cases name place (begins members at) =
      elim (at_cases place (event.Begin name members) decided.Begun at) [
        | inl there ↦ inl (begins members there)
        | inr here ↦ inr (here.0, begun members here.1)
      ]
  turn_cases name place (ends at) =
      elim (at_cases place (event.End name) decided.Ended at) [
        | inl there ↦ inl (ends there)
        | inr here ↦ inr (here.0, ended here.1)
      ]

  turn_within : (name : List ℕ) (place : ℕ) → Turns journal name place → place < length journal
  turn_within name place (begins members at) = at_within place _ _ at
  turn_within name place (ends at) = at_within place _ _ at

  pub began_within : (name : List ℕ) (c : Context) (began : ℕ) → BeganAt policy journal name c began → began < length journal
  began_within name c began b = at_within began _ _ b.at

  pub began_more : (name : List ℕ) (c : Context) (began : ℕ) → (TurnsHere e name → ⊥) → BeganAt policy journal name c began → BeganAt policy (journal ++ e ∷ []) name c began
  began_more name c began still b =
      record {
        members = b.members;
        at = at_more began _ _ b.at;
        context_is = b.context_is;
        last = λ later after turns.
            elim (turn_cases name later turns) [
              | inl earlier ↦ b.last later after earlier
              | inr here ↦ still here.1
            ];
      }

  pub began_here : (name : List ℕ) (members : List Member) (c : Context) → Says e (event.Begin name members) decided.Begun → context_of policy.params members ≡ Some c
      → BeganAt policy (journal ++ e ∷ []) name c (length journal)
  began_here name members c says context_is =
      record {
        members = members;
        at = at_here _ _ says;
        context_is = context_is;
        last = λ later after turns.
            elim (turn_cases name later turns) [
              | inl earlier ↦ let below : later < length journal = turn_within name later earlier in absurd (omega (arith, below, after))
              | inr here ↦ let same : later ≡ length journal = here.0 in absurd (omega (arith, same, after))
            ];
      }

  pub allowed_more : (name : List ℕ) (began line : ℕ) (query : Query) → WasAllowed policy journal name began line query → WasAllowed policy (journal ++ e ∷ []) name began line query
  allowed_more name began line query a =
      record { place = a.place; line_is = a.line_is; after = a.after; text = a.text; by = a.by; send = a.send; asks = at_more a.place _ _ a.asks; reads = a.reads }

  pub told_more : (name : List ℕ) (began : ℕ) (it : ToldRows) → WasTold policy journal name began it → WasTold policy (journal ++ e ∷ []) name began it
  told_more name began it t =
      record { line = t.line; allowed = allowed_more name began t.line it.query t.allowed; place = t.place; later = t.later; decision = t.decision; recorded = t.recorded; tells = at_more t.place _ _ t.tells }

  -- a request goes on: its context and its trace stay, and no question of it becomes one that may be told
  pub goes_on : (old new : Live) (name : List ℕ) (asker after : Open) → Tracked policy journal old name asker → after.context ≡ asker.context → after.trace ≡ asker.trace
      → ((line : ℕ) (question : Asked) → asked_at new line ≡ Some question → question.name ≡ name → asked_at old line ≡ Some question) → (TurnsHere e name → ⊥)
      → Tracked policy (journal ++ e ∷ []) new name after
  goes_on old new name asker after t context trace still calm =
      let a = t.asker_is in
      record {
        asker_is = record {
          began = a.began;
          request = subst (λ c. BeganAt policy (journal ++ e ∷ []) name c a.began) (sym context) (began_more name asker.context a.began calm a.request);
          told = a.told;
          were = All-weaker (WasTold policy journal name a.began) (WasTold policy (journal ++ e ∷ []) name a.began) (told_more name a.began) a.told a.were;
          records = subst (λ c. RecordsTold policy c a.told after.trace) (sym context) (subst (RecordsTold policy asker.context a.told) (sym trace) a.records);
        };
        questions = λ line question is named. allowed_more name a.began line question.query (t.questions line question (still line question is named) named);
      }
