-- The look after a join, and closing.
use mathlib.Core.Option.{none, some}
use mathlib.Core.Option as maybe
use lib.ListN.{get_elem?}
use Rattle.std.proofs.Common.{◌≡◌, ℕ, ◌+◌, Bool, true, false, List, [], ◌∷◌, length, get_or, set, sym, refl, ap, ◌∙◌, subst, arith, Option, Some}
use Rattle.atomic_table.specs.Table.{State, Me, step, keeps, Allows, Final, Seen}
use Rattle.ba_turn.specs.declared.known.Kept.{Kept}
use Rattle.ba_turn.specs.declared.known.Known.{Known}
use Rattle.ba_turn.specs.History.{calls_by, HasCalls, AreDistinct}
use Rattle.ba_turn.specs.Knowing.{after_join, numbers_of, HasAllCalls}
use Rattle.ba_turn.specs.Rule.{Scene, left_of, StandsAt, TakesTurns}
use Rattle.ba_turn.specs.Steps.{Settles}
use Rattle.ba_turn.proofs.Lists.{sum_at, same_at, prefix_both, prefix_whole, prefix_length}
use Rattle.ba_turn.proofs.Histories.{joined_calls}
use Rattle.ba_turn.proofs.Steps.{sums, has_all_calls, unmoved, ticket_is, same_out}

at_rest : (b : Bool) → (b ≡ true → ⊥) → b ≡ false
at_rest true h = absurd (h refl)
at_rest false h = refl

module _ {S E O : Type 0} (opening : S → O) (history : S → List E) (room : S → ℕ) (start : S) (allowance : ℕ) where
  abbrev V : Type 0
  V = Known S E

  abbrev St : Type 0
  St = State (Option (Kept S)) V

  abbrev M : Type 0
  M = Me (Option (Kept S)) V

  abbrev Rule : St → Type 0
  Rule = TakesTurns opening history room start allowance

  -- a look that tells of two beginnings, and of the sums
  settles : (slots id : ℕ) (me : M) → me.0.live ≡ true → me.0.has_ticket ≡ false → Allows Rule slots id me 0 (λ n. n) (Settles (step slots 0 0 0 none) me)
  settles slots id me live idle s r _ at _ =
      let x : Scene S E = r.x in
      let n : ℕ = get_or s.words 0 0 in
      let f = r.each id me.0 at live in
      let words : set s.words 0 n ≡ x.ticket ∷ x.serving ∷ [] = ap (λ (ws : List ℕ). set ws 0 n) r.words ∙ ap (λ (z : ℕ). z ∷ x.serving ∷ []) (ticket_is opening history room start allowance s r) in (
        me.0,
        keeps,
        tt,
        unmoved opening history room start allowance s r id me.0 at live (set s.words 0 n) words,
        (refl, (λ h. prefix_both me.0.behind me.0.seen f.behind.0 f.seen.0 (f.behind.1 ∙ sym f.seen.1) h), sums opening history room start allowance s r id me.0 at live idle, f.apart, has_all_calls opening history room start allowance s r id me.0 at live),
      )

  pub settles_joined : (slots id : ℕ) (v w : V) (c : List (ℕ × Option (Kept S))) (me : M) → me ≡ (after_join v w, c) → v.live ≡ true → v.has_ticket ≡ false → Allows Rule slots id me 0 (λ n. n) (Settles (step slots 0 0 0 none) me)
  settles_joined slots id v w c me is live idle = settles slots id me (ap (λ (m : M). m.0.live) is ∙ live) (ap (λ (m : M). m.0.has_ticket) is ∙ idle)

  -- what is in the table at the end
  pub record Ends (v : V) (k : Kept S) : Type 0 where
    pub stands : StandsAt opening history room start allowance v.seen k
    pub made : calls_by v.number v.seen ≡ v.made
    pub joined : HasCalls v.seen v.joined
    pub apart : AreDistinct (numbers_of v)
    pub all : HasAllCalls v

  closes : (id : ℕ) (v : V) (ws : List ℕ) (xs : List (Option (Kept S))) → v.live ≡ true → v.left + length v.seen ≡ allowance → Final (Seen Rule id v) ws xs → (k : Kept S) × (get_elem? xs 0 ≡ some (Some k)) × Ends v k
  closes id v ws xs live spent_all end =
      let s : St = end.0 in
      let r : Rule s = end.1.0 in
      let at : get_elem? s.views id ≡ some v = end.1.1 in
      let x : Scene S E = r.x in
      let f = r.each id v at live in
      let there = sum_at left_of s.views id v at in
      let sum = r.sum in
      let logged = r.logged in
      let order = r.order in
      let most = prefix_length v.seen x.log f.seen in
      let out : x.out ≡ false = at_rest x.out (λ o. let b = r.busy o in omega arith) in
      let whole : v.seen ≡ x.log = prefix_whole v.seen x.log f.seen (omega arith) in
      let home : s.homes ≡ some (Some x.kept) ∷ [] = same_out opening history room start allowance x x.kept s.homes r.homes out in (
        x.kept,
        end.4 0 (Some x.kept) (ap (λ (hs : List (maybe.Option (Option (Kept S)))). get_elem? hs 0) home),
        record {
          stands = subst (λ (l : List (ℕ × E)). StandsAt opening history room start allowance l x.kept) (sym whole) (r.stands out);
          made = ap (calls_by v.number) whole ∙ f.made;
          joined = joined_calls x v.seen v.joined (sym whole) f.joined;
          apart = f.apart;
          all = has_all_calls opening history room start allowance s r id v at live;
        },
      )

  -- the value that came out of the slot
  pub closed : (id : ℕ) (v : V) (ws : List ℕ) (xs : List (Option (Kept S))) (res : Option (Kept S)) → v.live ≡ true → v.left + length v.seen ≡ allowance → Final (Seen Rule id v) ws xs → get_elem? xs 0 ≡ some res → (k : Kept S) × (res ≡ Some k) × Ends v k
  closed id v ws xs res live all end at = let c = closes id v ws xs live all end in (c.0, same_at xs 0 res (Some c.0) at c.1, c.2)

  -- the same of the value as it was matched
  pub closes_with : (id : ℕ) (v : V) (ws : List ℕ) (xs : List (Option (Kept S))) (res : Option (Kept S)) (kept : Kept S) → v.live ≡ true → v.left + length v.seen ≡ allowance → Final (Seen Rule id v) ws xs → get_elem? xs 0 ≡ some res → res ≡ Some kept → Ends v kept
  closes_with id v ws xs res kept live all end at is =
      let c = closed id v ws xs res live all end at in
      let same : c.0 ≡ kept = (let s : Some c.0 ≡ Some kept = sym c.1 ∙ is in cc) in
      subst (λ (k : Kept S). Ends v k) same c.2
