-- Each step keeps the rule of a turn.
use mathlib.Core.List.{IsPrefix}
use mathlib.Core.Logic.{dite}
use mathlib.Core.Option.{none, some}
use mathlib.Core.Option as maybe
use native.Mathlib.Decide.{ℕ_discrete, dec_le}
use lib.ListN.{get_elem?}
use Rattle.std.proofs.Common.{◌≡◌, ◌≢◌, ℕ, ◌+◌, ◌%◌, ◌^◌, ◌<◌, ◌≤◌, Bool, true, false, cond, List, [], ◌∷◌, ◌++◌, map, length, get_or, set, sym, lt_of_not-le, refl, ap, ◌∙◌, subst, ⊎_elim, arith, Option, Some, None, vec_capacity, length-append}
use Rattle.std.specs.List.{sum_by, All, Contains, slice_index_or}
use Rattle.std.proofs.lemmas.List.{length-map}
use Rattle.std.proofs.lemmas.List.Elements.{All-cons}
use Rattle.std.proofs.lemmas.List.Sums.{sum_by-cons}
use Rattle.atomic_table.specs.Table.{State, Me, Step, step, keeps, takes, gives, put_back, rest, Allows}
use Rattle.atomic_table.specs.Table.{opening as table_opening}
use Rattle.atomic_table.proofs.Lists.{at_set, set_here, set_else}
use Rattle.ba_turn.specs.declared.held.Held.{Held}
use Rattle.ba_turn.specs.declared.known.Kept.{Kept}
use Rattle.ba_turn.specs.declared.known.Known.{Known}
use Rattle.ba_turn.specs.declared.pass.Pass.{Pass}
use Rattle.ba_turn.specs.declared.turn.Turn.{Turn}
use Rattle.ba_turn.specs.History.{calls_by, number_of, entry_of}
use Rattle.ba_turn.specs.Knowing.{opening_known, with_ticket, with_turn, after_take, after_put, SumsToAllowance, numbers_of, HasAllCalls}
use Rattle.ba_turn.specs.Rule.{Scene, slot_of, IsTrueOf, AllJoined, left_of, live_of, HoldsTicket, SomeHasSeen, StandsAt, TakesTurns}
use Rattle.ba_turn.specs.Steps.{Draws, Looks, CallsOn, IsTaken}
use Rattle.ba_turn.specs.Passes.{known_by, start_of, allowance_of, value_of, HasTurn, IsGrown}
use Rattle.ba_turn.proofs.Lists.{sum_set, sum_at, same_at, is_within, at_only, snoc_same, alone_weighs, alone_is, prefix_more, prefix_self, alone_differs, every_number, replaced, replaced_here, replaced_else}
use Rattle.ba_turn.proofs.Histories.{calls_here, calls_else, entries_more, numbers_more, numbers_within, counted, joined_map, joined_known, joined_sum}

abbrev kept_or : {K : Type 0} → K → List (ℕ × Option K) → K
kept_or d [] = d
kept_or d (c ∷ cs) = elim (c.1) [ None ↦ d | Some k ↦ k ]

zero_known : 0 ≤ 0
zero_known = omega arith

one_slot : {K : Type 0} (l : List (ℕ × Option K)) (k k' : K) → l ≡ (0, Some k) ∷ [] → l ≡ (0, Some k') ∷ [] → k ≡ k'
one_slot l k k' e e' = ap (kept_or k) (sym e ∙ e')

-- a Bool as a weight
abbrev pub one_if : Bool → ℕ
one_if b = cond b 1 0

not_live : (b : Bool) → one_if b ≡ 0 → b ≡ false
not_live true e = absurd (omega arith)
not_live false e = refl

not_next : (o b : Bool) → (b ≡ true → ⊥) → false ≡ b
not_next o true h = absurd (h refl)
not_next o false h = refl

pub true_not_false : {A : Type 0} (b : Bool) → b ≡ true → b ≡ false → A
true_not_false b t f = let e : true ≡ false = sym t ∙ f in cc

module _ {S E O : Type 0} (opening : S → O) (history : S → List E) (room : S → ℕ) (start : S) (allowance : ℕ) where
  abbrev pub V : Type 0
  V = Known S E

  abbrev pub St : Type 0
  St = State (Option (Kept S)) V

  abbrev pub M : Type 0
  M = Me (Option (Kept S)) V

  abbrev pub Rule : St → Type 0
  Rule = TakesTurns opening history room start allowance

  abbrev pub Fact : Scene S E → ℕ → V → Type 0
  Fact = IsTrueOf start allowance

  -- the seat id goes from v to w, and the scene to y
  pub moved : (s : St) (r : Rule s) (id : ℕ) (v w : V) → get_elem? s.views id ≡ some v → (y : Scene S E) (ws : List ℕ) (hs : List (maybe.Option (Option (Kept S))))
      → ws ≡ y.ticket ∷ y.serving ∷ [] → hs ≡ slot_of y.out y.kept ∷ [] → (y.out ≡ false → StandsAt opening history room start allowance y.log y.kept) → (y.out ≡ true → y.serving < y.ticket)
      → y.serving ≤ y.ticket → length y.log ≡ y.serving → w.left + y.ticket ≡ v.left + r.x.ticket → ((n : ℕ) → y.last < n → calls_by n y.log ≡ [])
      → v.live ≡ true → w.live ≡ true → y.gone ≡ r.x.gone → y.last ≡ r.x.last
      → ((k : ℕ) → y.serving ≤ k → k < y.ticket → HoldsTicket (set s.views id w) (y.owner k) k) → SomeHasSeen (set s.views id w) y.serving
      → Fact y id w
      → ((j : ℕ) (b : V) → j ≢ id → Fact r.x j b → Fact y j b)
      → Rule record { words = ws; homes = hs; views = set s.views id w }
  moved s r id v w at y ws hs words homes tells busy order logged sum fresh live live' gone last queue known made others = record {
    x = y;
    words = words;
    homes = homes;
    stands = tells;
    busy = busy;
    order = order;
    logged = logged;
    sum = (let t = sum_set left_of s.views id v w at in let p = r.sum in omega arith);
    small = r.small;
    fresh = fresh;
    alive = (let t = sum_set live_of s.views id v w at in let one : live_of v ≡ 1 = ap one_if live in let one' : live_of w ≡ 1 = ap one_if live' in let a = r.alive in omega arith);
    spent = λ j b e gone. ⊎_elim (λ (t : (j ≡ id) × (w ≡ b)). true_not_false b.live (ap (λ (z : V). z.live) (sym t.1) ∙ live') gone) (λ (t : (j ≢ id) × (get_elem? s.views j ≡ some b)). r.spent j b t.1 gone) (at_set s.views id j w b e);
    queue = queue;
    known = known;
    each = λ j b e now. ⊎_elim (λ (t : (j ≡ id) × (w ≡ b)). subst (λ (z : ℕ × V). Fact y z.0 z.1) (λ i. (sym t.0 i, t.1 i)) made)
        (λ (t : (j ≢ id) × (get_elem? s.views j ≡ some b)). others j b t.0 (r.each j b t.1 now)) (at_set s.views id j w b e);
  }

  -- who held a ticket still holds it, where the seat id holds it if it did
  pub still : (vs : List V) (id : ℕ) (v w : V) (j k : ℕ) → get_elem? vs id ≡ some v → (v.has_ticket ≡ true → v.ticket ≡ k → (w.live ≡ true) × (w.has_ticket ≡ true) × (w.ticket ≡ k)) → HoldsTicket vs j k → HoldsTicket (set vs id w) j k
  still vs id v w j k at own h = dite (ℕ_discrete j id)
      (λ e. let here : get_elem? vs id ≡ some h.view = subst (λ (i : ℕ). get_elem? vs i ≡ some h.view) e h.at in let same : h.view ≡ v = same_at vs id h.view v here at in
      let t = own (ap (λ (z : V). z.has_ticket) (sym same) ∙ h.has_ticket) (ap (λ (z : V). z.ticket) (sym same) ∙ h.ticket) in
      record { view = w; at = subst (λ (i : ℕ). get_elem? (set vs id w) i ≡ some w) (sym e) (set_here vs id w (is_within vs id v at)); live = t.0; has_ticket = t.1; ticket = t.2 })
      (λ ne. record { view = h.view; at = set_else vs id j w ne ∙ h.at; live = h.live; has_ticket = h.has_ticket; ticket = h.ticket })

  pub knows_still : (vs : List V) (id : ℕ) (v w : V) (n : ℕ) → get_elem? vs id ≡ some v → (length v.seen ≡ n → (w.live ≡ true) × (length w.seen ≡ n)) → SomeHasSeen vs n → SomeHasSeen (set vs id w) n
  knows_still vs id v w n at own h = dite (ℕ_discrete h.seat id)
      (λ e. let here : get_elem? vs id ≡ some h.view = subst (λ (i : ℕ). get_elem? vs i ≡ some h.view) e h.at in let same : h.view ≡ v = same_at vs id h.view v here at in
      let t = own (ap (λ (z : V). length z.seen) (sym same) ∙ h.seen) in
      record { seat = id; view = w; at = set_here vs id w (is_within vs id v at); live = t.0; seen = t.1 })
      (λ ne. record { seat = h.seat; view = h.view; at = set_else vs id h.seat w ne ∙ h.at; live = h.live; seen = h.seen })

  -- once all passes are back, the opening pass has seen the whole log
  seen_whole : (s : St) (r : Rule s) (id : ℕ) (v : V) → get_elem? s.views id ≡ some v → v.live ≡ true → v.number ≡ 0 → v.splits ≡ length v.joined → (sum_by live_of s.views ≡ 1) × (length v.seen ≡ r.x.serving)
  seen_whole s r id v at live zero_is all_back =
      let x : Scene S E = r.x in
      let f = r.each id v at live in
      let o = f.opens zero_is in
      let o0 = o.0 in
      let o1 = o.1 in
      let alive = r.alive in
      let one : sum_by live_of s.views ≡ 1 = omega arith in
      let k = r.known in
      let k_is : k.seat ≡ id = alone_is live_of s.views id k.seat v k.view at (ap one_if live) one k.at (ap one_if k.live) in
      let k_same : k.view ≡ v = same_at s.views id k.view v (subst (λ (i : ℕ). get_elem? s.views i ≡ some k.view) k_is k.at) at in
      (one, ap (λ (z : V). length z.seen) (sym k_same) ∙ k.seen)

  -- what a seat without a ticket learns
  pub sums : (s : St) (r : Rule s) (id : ℕ) (v : V) → get_elem? s.views id ≡ some v → v.live ≡ true → v.has_ticket ≡ false → SumsToAllowance v
  sums s r id v at live idle zero_is all_back =
      let x : Scene S E = r.x in
      let f = r.each id v at live in
      let whole = seen_whole s r id v at live zero_is all_back in
      let one = whole.0 in
      let seen = whole.1 in
      let made : live_of v ≡ 1 = ap one_if live in
      let left : sum_by left_of s.views ≡ v.left = alone_weighs left_of live_of s.views id v at made one (λ j b e z. r.spent j b e (not_live b.live z)) in
      let order = r.order in
      let sum = r.sum in
      let al = f.allowance_is in
      let none_waits : ¬ (x.serving < x.ticket) = λ lt. (let h = r.queue x.serving (omega arith) lt in
      let h_is : x.owner x.serving ≡ id = alone_is live_of s.views id (x.owner x.serving) v h.view at made one h.at (ap one_if h.live) in
      let h_same : h.view ≡ v = same_at s.views id h.view v (subst (λ (i : ℕ). get_elem? s.views i ≡ some h.view) h_is h.at) at in
      true_not_false v.has_ticket (ap (λ (z : V). z.has_ticket) (sym h_same) ∙ h.has_ticket) idle) in
      let end : x.ticket ≤ x.serving = dite (dec_le x.ticket x.serving) (λ le. le) (λ nle. absurd (none_waits (lt_of_not-le nle))) in
      omega arith

  -- and what each seat learns of the numbers
  all_numbers : (s : St) (r : Rule s) (id : ℕ) (v : V) → get_elem? s.views id ≡ some v → v.live ≡ true → v.number ≡ 0 → v.splits ≡ length v.joined → (l : List (ℕ × E)) → IsPrefix l r.x.log → All (Contains (numbers_of v)) (map number_of l)
  all_numbers s r id v at live zero_is all_back l begins =
      let x : Scene S E = r.x in
      let f = r.each id v at live in
      let o = f.opens zero_is in
      let o0 = o.0 in
      let few : All (λ m. m ≤ x.last) (numbers_of v) = All-cons (λ m. m ≤ x.last) v.number (map number_of v.joined) f.known (joined_known x v.joined f.joined) in
      let full : length (numbers_of v) ≡ x.last + 1 = omega (arith, length-map v.joined number_of) in
      λ k d within. every_number (numbers_of v) x.last (slice_index_or (map number_of l) k d) f.apart few full (numbers_within x.last l x.log begins r.fresh k d within)

  pub has_all_calls : (s : St) (r : Rule s) (id : ℕ) (v : V) → get_elem? s.views id ≡ some v → v.live ≡ true → HasAllCalls v
  has_all_calls s r id v at live = record {
    each = λ zero_is all_back. all_numbers s r id v at live zero_is all_back v.seen (r.each id v at live).seen;
    count = λ zero_is all_back.
        let x : Scene S E = r.x in
        let f = r.each id v at live in
        let whole = seen_whole s r id v at live zero_is all_back in
        let seen = whole.1 in
        let logged = r.logged in
        let all = counted x.log (numbers_of v) f.apart (all_numbers s r id v at live zero_is all_back x.log (prefix_self x.log)) in
        let a = sum_by-cons (λ (n : ℕ). length (calls_by n x.log)) v.number (map number_of v.joined) in
        let own : length (calls_by v.number x.log) ≡ length v.made = ap (λ (l : List E). length l) f.made in
        let rest = joined_sum x v.joined f.joined in
        omega arith;
  }

  -- the words as they are
  pub ticket_is : (s : St) (r : Rule s) → get_or s.words 0 0 ≡ r.x.ticket
  ticket_is s r = ap (λ (ws : List ℕ). get_or ws 0 0) r.words

  serving_is : (s : St) (r : Rule s) → get_or s.words 1 0 ≡ r.x.serving
  serving_is s r = ap (λ (ws : List ℕ). get_or ws 1 0) r.words

  -- the ticket n is Draws
  pub draws : (slots id : ℕ) (me : M) → me.0.live ≡ true → me.0.has_ticket ≡ false → me.0.has_turn ≡ false → 0 < me.0.left → Allows Rule slots id me 0 (λ n. (n + 1) % 2 ^ 64) (Draws (step slots 0 1 0 none) me)
  draws slots id me live idle idle' some_left s r _ at _ =
      let x : Scene S E = r.x in
      let n : ℕ = get_or s.words 0 0 in
      let n_is : n ≡ x.ticket = ticket_is s r in
      let there = sum_at left_of s.views id me.0 at in
      let sum = r.sum in
      let small = r.small in
      let f = r.each id me.0 at live in
      let w : V = with_ticket n me.0 in
      let o : ℕ → ℕ = replaced x.owner x.ticket id in
      let y : Scene S E = record x { ticket = x.ticket + 1; owner = o } in
      let next : (n + 1) % 2 ^ 64 ≡ x.ticket + 1 = omega arith in
      let order = r.order in
      let busy = r.busy in (
        w,
        keeps,
        tt,
        moved s r id me.0 w at y (set s.words 0 ((n + 1) % 2 ^ 64)) s.homes
            (ap (λ (ws : List ℕ). set ws 0 ((n + 1) % 2 ^ 64)) r.words ∙ ap (λ (z : ℕ). z ∷ x.serving ∷ []) next)
            r.homes r.stands (λ (e : x.out ≡ true). let b = busy e in omega arith) (omega arith) r.logged (omega arith) r.fresh
            live live refl refl
            (λ k low high. dite (ℕ_discrete k x.ticket)
            (λ e. let o_is : o k ≡ id = ap o e ∙ replaced_here x.owner x.ticket id in
            record { view = w; at = subst (λ (i : ℕ). get_elem? (set s.views id w) i ≡ some w) (sym o_is) (set_here s.views id w (is_within s.views id me.0 at)); live = live; has_ticket = refl; ticket = n_is ∙ sym e })
            (λ ne. let o_is : o k ≡ x.owner k = replaced_else x.owner x.ticket id k ne in
            subst (λ (i : ℕ). HoldsTicket (set s.views id w) i k) (sym o_is) (still s.views id me.0 w (x.owner k) k at (λ d t. true_not_false me.0.has_ticket d idle) (r.queue k low (omega arith)))))
            (knows_still s.views id me.0 w x.serving at (λ h. (live, h)) r.known)
            (record {
              seen = f.seen;
              behind = f.behind;
              made = f.made;
              placed = f.placed;
              known = f.known;
              opens = f.opens;
              joined = joined_map x y me.0.joined (λ m cs h. record { calls_are = h.calls_are; free = h.free; known = h.known }) f.joined;
              apart = f.apart;
              has_ticket = λ _. (
                omega arith,
                omega arith,
                ap o n_is ∙ replaced_here x.owner x.ticket id,
                (λ (e : n ≡ x.serving). elim x.out as (λ b. (b ≡ true → x.serving < x.ticket) → b ≡ me.0.has_turn) [ true ↦ (λ h. let b = h refl in absurd (omega arith)) | false ↦ (λ h. sym idle') ] busy),
              );
              has_turn = λ t. true_not_false me.0.has_turn t idle';
              start_is = f.start_is;
              allowance_is = f.allowance_is;
            })
            (λ j b ne g. record {
              seen = g.seen;
              behind = g.behind;
              made = g.made;
              placed = g.placed;
              known = g.known;
              opens = g.opens;
              joined = joined_map x y b.joined (λ m cs h. record { calls_are = h.calls_are; free = h.free; known = h.known }) g.joined;
              apart = g.apart;
              start_is = g.start_is;
              allowance_is = g.allowance_is;
              has_ticket = (λ e. let t = g.has_ticket e in (t.0, omega arith, replaced_else x.owner x.ticket id b.ticket (λ q. let l = t.1 in omega arith) ∙ t.2, t.3));
              has_turn = g.has_turn;
            }),
        refl,
      )

  pub same_out : (x : Scene S E) (k : Kept S) (hs : List (maybe.Option (Option (Kept S)))) → hs ≡ slot_of x.out x.kept ∷ [] → x.out ≡ false → hs ≡ some (Some x.kept) ∷ []
  same_out x k hs h o = h ∙ ap (λ (b : Bool). slot_of b x.kept ∷ []) o

  taking : {n t : ℕ} {A B : Type 0} → n ≢ t → A → (n ≡ t → B) × (n ≢ t → A)
  taking ne a = (λ e. absurd (ne e), λ _. a)

  pub unmoved : (s : St) (r : Rule s) (id : ℕ) (v : V) → get_elem? s.views id ≡ some v → v.live ≡ true → (ws : List ℕ) → ws ≡ r.x.ticket ∷ r.x.serving ∷ [] → Rule record { words = ws; homes = s.homes; views = set s.views id v }
  unmoved s r id v at live ws words = moved s r id v v at r.x ws s.homes words r.homes r.stands r.busy r.order r.logged refl r.fresh live live refl refl
      (λ k low high. still s.views id v v (r.x.owner k) k at (λ d t. (live, d, t)) (r.queue k low high))
      (knows_still s.views id v v r.x.serving at (λ h. (live, h)) r.known) (r.each id v at live) (λ j b ne g. g)

  -- the number served is Looks at
  pub looks : (slots id : ℕ) (me : M) → me.0.live ≡ true → me.0.has_ticket ≡ true → me.0.has_turn ≡ false → me.1 ≡ [] → Allows Rule slots id me 1 (λ n. n) (Looks opening history room (step slots 1 0 0 none) me)
  looks slots id me live has_ticket idle bare s r _ at _ =
      let x : Scene S E = r.x in
      let n : ℕ = get_or s.words 1 0 in
      let n_is : n ≡ x.serving = serving_is s r in
      let words : set s.words 1 n ≡ x.ticket ∷ x.serving ∷ [] = ap (λ (ws : List ℕ). set ws 1 n) r.words ∙ ap (λ (z : ℕ). x.ticket ∷ z ∷ []) n_is in
      let f = r.each id me.0 at live in
      let q = f.has_ticket has_ticket in
      let there = sum_at left_of s.views id me.0 at in
      let sum = r.sum in
      let logged = r.logged in
      dite (ℕ_discrete n me.0.ticket)
      (λ hit.
      let ticket_here : me.0.ticket ≡ x.serving = sym hit ∙ n_is in
      let out : x.out ≡ false = q.3 ticket_here ∙ idle in
      let w : V = with_turn x.log me.0 in
      let y : Scene S E = record x { out = true } in
      let here : s.homes ≡ some (Some x.kept) ∷ [] = same_out x x.kept s.homes r.homes out in
      let mine_first : x.owner x.serving ≡ id = ap x.owner (sym ticket_here) ∙ q.2 in (
        w,
        takes 0 (Some x.kept),
        ap (λ (hs : List (maybe.Option (Option (Kept S)))). get_elem? hs 0) here,
        moved s r id me.0 w at y (set s.words 1 n) (set s.homes 0 none) words
            (ap (λ (hs : List (maybe.Option (Option (Kept S)))). set hs 0 none) here)
            (λ (e : true ≡ false). true_not_false true refl e) (λ _. let a = q.1 in let b = q.0 in omega arith) r.order r.logged (omega arith) r.fresh
            live live refl refl
            (λ k low high. still s.views id me.0 w (x.owner k) k at (λ d t. (live, d, t)) (r.queue k low high))
            (knows_still s.views id me.0 w x.serving at (λ h. (live, h)) r.known)
            (record {
              seen = f.seen;
              behind = f.behind;
              made = f.made;
              placed = f.placed;
              known = f.known;
              opens = f.opens;
              joined = joined_map x y me.0.joined (λ m cs h. record { calls_are = h.calls_are; free = h.free; known = h.known }) f.joined;
              apart = f.apart;
              has_ticket = λ _. (q.0, q.1, q.2, λ _. refl);
              has_turn = λ _. (has_ticket, ticket_here, refl, refl);
              start_is = f.start_is;
              allowance_is = f.allowance_is;
            })
            (λ j b ne g. record {
              seen = g.seen;
              behind = g.behind;
              made = g.made;
              placed = g.placed;
              known = g.known;
              opens = g.opens;
              joined = joined_map x y b.joined (λ m cs h. record { calls_are = h.calls_are; free = h.free; known = h.known }) g.joined;
              apart = g.apart;
              start_is = g.start_is;
              allowance_is = g.allowance_is;
              has_ticket = (λ e. let t = g.has_ticket e in (t.0, t.1, t.2, λ (p : b.ticket ≡ x.serving). absurd (ne (sym t.2 ∙ (ap x.owner p ∙ mine_first)))));
              has_turn = (λ e. let t = g.has_turn e in let d = g.has_ticket t.0 in absurd (ne (sym d.2 ∙ (ap x.owner t.1 ∙ mine_first))));
            }),
        (
          (λ _. (
            x.log,
            x.kept,
            ap (λ (c : List (ℕ × Option (Kept S))). (w, (0, Some x.kept) ∷ c)) bare,
            record {
              stands = (λ st is. subst (λ (z : Option S × ℕ). z.0 ≡ Some st → StandsAt opening history room st z.1 x.log x.kept) (λ i. (sym f.start_is i, sym f.allowance_is i)) (λ same. let e : start ≡ st = cc in subst (λ (z : S). StandsAt opening history room z allowance x.log x.kept) e (r.stands out)) is);
              seen = f.seen;
              below = (let a = q.0 in let b = q.1 in let c = f.allowance_is in omega arith);
            },
          )),
          λ miss. absurd (miss hit),
        ),
      ))
      (λ miss. (
        me.0,
        keeps,
        tt,
        unmoved s r id me.0 at live (set s.words 1 n) words,
        taking miss refl,
      ))

  -- the next number is called
  pub calls : (slots id : ℕ) (me : M) (e : E) (k : Kept S) → me.0.live ≡ true → me.0.has_turn ≡ true → me.1 ≡ (0, Some k) ∷ []
      → StandsAt opening history room start allowance (me.0.found ++ (me.0.number, e) ∷ []) k → Allows Rule slots id me 1 (λ n. (n + 1) % 2 ^ 64) (CallsOn history (step slots 1 1 0 none) me)
  calls slots id me e k live turn holds_it tells s r _ at _ =
      let x : Scene S E = r.x in
      let n : ℕ = get_or s.words 1 0 in
      let n_is : n ≡ x.serving = serving_is s r in
      let f = r.each id me.0 at live in
      let q = f.has_turn turn in
      let d = f.has_ticket q.0 in
      let d1 = d.1 in
      let q1 = q.1 in
      let mine_first : x.owner x.serving ≡ id = ap x.owner (sym q.1) ∙ d.2 in
      let there = sum_at left_of s.views id me.0 at in
      let sum = r.sum in
      let small = r.small in
      let logged = r.logged in
      let v : V = me.0 in
      let w : V = after_put e v in
      let c : ℕ × E = (v.number, e) in
      let found : v.found ≡ x.log = q.3 in
      let y : Scene S E = record x { serving = x.serving + 1; log = x.log ++ c ∷ []; out = false; kept = k } in
      let next : (n + 1) % 2 ^ 64 ≡ x.serving + 1 = omega arith in
      let here : calls_by v.number (x.log ++ c ∷ []) ≡ w.made = calls_here v.number x.log e ∙ ap (λ (l : List E). l ++ e ∷ []) f.made in
      let out : s.homes ≡ none ∷ [] = r.homes ∙ ap (λ (b : Bool). slot_of b x.kept ∷ []) q.2 in
      let at_end : v.found ++ c ∷ [] ≡ x.log ++ c ∷ [] = ap (λ (l : List (ℕ × E)). l ++ c ∷ []) found in
      let long : length (x.log ++ c ∷ []) ≡ x.serving + 1 = omega (arith, length-append x.log (c ∷ [])) in
      let joins : (l : List (ℕ × List E)) → AllJoined x l → AllJoined y l = λ l. joined_map x y l (λ m cs h. record {
        calls_are = calls_else m v.number x.log e (λ (t : v.number ≡ m). let p = f.placed in let p' = h.free in let same : x.place v.number ≡ x.place m = ap x.place t in omega arith) ∙ h.calls_are;
        free = h.free;
        known = h.known;
      }) in
      let ws : List ℕ = set s.words 1 ((n + 1) % 2 ^ 64) in
      let hs : List (maybe.Option (Option (Kept S))) = put_back s.homes me.1 in
      let after : Rule record { words = ws; homes = hs; views = set s.views id w } = moved s r id v w at y ws hs
      (ap (λ (l : List ℕ). set l 1 ((n + 1) % 2 ^ 64)) r.words ∙ ap (λ (z : ℕ). x.ticket ∷ z ∷ []) next)
      (ap (λ (z : List (maybe.Option (Option (Kept S))) × List (ℕ × Option (Kept S))). put_back z.0 z.1) (λ i. (out i, holds_it i)))
      (λ _. subst (λ (l : List (ℕ × E)). StandsAt opening history room start allowance l k) at_end tells)
      (λ (b : false ≡ true). true_not_false true refl (sym b)) (omega arith) long
      (omega arith)
      (λ m more. calls_else m v.number x.log e (λ h. let z = f.known in omega arith) ∙ r.fresh m more)
      live live refl refl
      (λ j low high. still s.views id v w (x.owner j) j at (λ dr t. absurd (omega arith)) (r.queue j (omega arith) high))
      (record { seat = id; view = w; at = set_here s.views id w (is_within s.views id v at); live = live; seen = ap (λ (l : List (ℕ × E)). length l) at_end ∙ long })
      (record {
        seen = subst (λ (l : List (ℕ × E)). IsPrefix (v.found ++ c ∷ []) l) at_end (prefix_self (v.found ++ c ∷ []));
        behind = prefix_more v.behind x.log (c ∷ []) f.behind;
        made = here;
        placed = f.placed;
        known = f.known;
        opens = f.opens;
        joined = joins v.joined f.joined;
        apart = f.apart;
        has_ticket = λ (h : false ≡ true). true_not_false true refl (sym h);
        has_turn = λ (h : false ≡ true). true_not_false true refl (sym h);
        start_is = f.start_is;
        allowance_is = f.allowance_is;
      })
      (λ j b ne g. record {
        seen = prefix_more b.seen x.log (c ∷ []) g.seen;
        behind = prefix_more b.behind x.log (c ∷ []) g.behind;
        made = calls_else b.number v.number x.log e (λ h. let p = f.placed in let p' = g.placed in let same : x.place v.number ≡ x.place b.number = ap x.place h in ne (omega arith)) ∙ g.made;
        placed = g.placed;
        known = g.known;
        opens = g.opens;
        joined = joins b.joined g.joined;
        apart = g.apart;
        start_is = g.start_is;
        allowance_is = g.allowance_is;
        has_ticket = (λ h. let t = g.has_ticket h in let apart : b.ticket ≢ x.serving = (λ p. ne (sym t.2 ∙ (ap x.owner p ∙ mine_first))) in let t0 = t.0 in (omega arith, t.1, t.2, λ p. not_next x.out b.has_turn (λ u. let z = g.has_turn u in apart z.1)));
        has_turn = (λ h. let t = g.has_turn h in let z = g.has_ticket t.0 in absurd (ne (sym z.2 ∙ (ap x.owner t.1 ∙ mine_first))));
      }) in (
        w,
        gives,
        tt,
        after,
        (λ e' k' has history_is.
            let k_is : k ≡ k' = one_slot me.1 k k' holds_it has in
            let e_is : e ≡ e' = snoc_same (map entry_of v.found) e e' (sym (entries_more v.found v.number e) ∙ (sym tells.history_is ∙ (ap (λ (z : Kept S). history z.value) k_is ∙ history_is))) in (
              (λ i. (after_put (e_is i) v, rest (holds_it i))),
              subst (λ (l : List (ℕ × E)). IsPrefix v.seen l) (sym found) f.seen,
              ap (λ (a : E). calls_by v.number (v.found ++ (v.number, a) ∷ [])) (sym e_is) ∙ (ap (calls_by v.number) at_end ∙ (here ∙ ap (λ (a : E). v.made ++ a ∷ []) e_is)),
              subst (λ (a : E). SumsToAllowance (after_put a v)) e_is (sums record { words = ws; homes = hs; views = set s.views id w } after id w (set_here s.views id w (is_within s.views id v at)) live refl),
            )),
      )

  abbrev first_scene : Kept S → Scene S E
  first_scene k = record { ticket = 0; serving = 0; log = []; out = false; kept = k; owner = λ n. 0; place = λ n. 1; last = 0; gone = 0 }

  -- the table at the start
  pub starts : (k : Kept S) (xs : List (Option (Kept S))) → xs ≡ Some k ∷ [] → StandsAt opening history room start allowance [] k → allowance < 2 ^ 32 → Rule (table_opening (0 ∷ 0 ∷ []) xs (opening_known start allowance))
  starts k xs is tells small = record {
    x = first_scene k;
    words = refl;
    homes = ap (map some) is;
    stands = λ _. tells;
    busy = λ (e : false ≡ true). true_not_false true refl (sym e);
    order = omega arith;
    logged = refl;
    sum = omega arith;
    small = small;
    fresh = λ n more. refl;
    alive = refl;
    spent = λ j b e gone. let t = at_only (opening_known start allowance) j b e in true_not_false b.live (ap (λ (z : V). z.live) (sym t.1)) gone;
    queue = λ k low high. absurd (omega arith);
    known = record { seat = 0; view = opening_known start allowance; at = refl; live = refl; seen = refl };
    each = λ j b e live. let t = at_only (opening_known start allowance) j b e in subst (λ (z : ℕ × V). Fact (first_scene k) z.0 z.1) (λ i. (sym t.0 i, t.1 i)) (record {
      seen = ([], refl);
      behind = ([], refl);
      made = refl;
      placed = refl;
      known = zero_known;
      opens = λ _. (refl, refl);
      joined = tt;
      apart = alone_differs 0;
      has_ticket = λ (h : false ≡ true). true_not_false true refl (sym h);
      has_turn = λ (h : false ≡ true). true_not_false true refl (sym h);
      start_is = refl;
      allowance_is = refl;
    });
  }

  pub looks_on : (slots id : ℕ) (v : V) (t : ℕ) (me : M) → me ≡ (with_ticket t v, []) → v.live ≡ true → v.has_turn ≡ false → Allows Rule slots id me 1 (λ n. n) (Looks opening history room (step slots 1 0 0 none) me)
  looks_on slots id v t me is live idle = subst (λ (z : M). Allows Rule slots id z 1 (λ n. n) (Looks opening history room (step slots 1 0 0 none) z)) (sym is) (looks slots id (with_ticket t v, []) live refl idle refl)

  -- what a seat that got the turn knows
  pub got_turn : (st : Step (Option (Kept S))) (v : V) (t : ℕ) (me m' : M) (r : ℕ) → me ≡ (with_ticket t v, []) → Looks opening history room st me r m' → r ≡ t → (found : List (ℕ × E)) × (k : Kept S) × (m' ≡ (after_take t found v, (0, Some k) ∷ [])) × IsTaken opening history room v found k
  got_turn st v t me m' r is did hit =
      let did' : Looks opening history room st (with_ticket t v, []) r m' = subst (λ (z : M). Looks opening history room st z r m') is did in
      let w = did'.0 hit in
      (w.0, w.1, w.2, record { stands = w.3.stands; seen = w.3.seen; below = w.3.below })

  -- the value that came out of the slot stands at the history found, and has room for an entry
  pub took : (v : V) (t : ℕ) (found : List (ℕ × E)) (k kept : Kept S) (me me' : M) (res : Option (Kept S)) → me ≡ (after_take t found v, (0, Some k) ∷ []) → IsTaken opening history room v found k
      → me.1 ≡ (0, res) ∷ rest me.1 → res ≡ Some kept → me' ≡ (me.0, (0, None) ∷ rest me.1) → v.start ≡ Some start → v.allowance ≡ allowance → StandsAt opening history room start allowance me'.0.found kept × (length me'.0.found < allowance)
  took v t found k kept me me' res is taken had kept_is after starts_at allows =
      let carried : me.1 ≡ (0, Some k) ∷ [] = ap (λ (m : M). m.1) is in
      let same : k ≡ kept = one_slot me.1 k kept carried (had ∙ (λ i. (0, kept_is i) ∷ rest (carried i))) in
      let found_is : me'.0.found ≡ found = ap (λ (m : M). m.0.found) after ∙ ap (λ (m : M). m.0.found) is in
      let stands : StandsAt opening history room start v.allowance found k = taken.stands start starts_at in
      subst (λ (z : ℕ × (List (ℕ × E) × Kept S)). StandsAt opening history room start z.0 z.1.0 z.1.1 × (length z.1.0 < z.0)) (λ i. (allows i, (sym found_is i, same i))) (stands, taken.below)

  pub has_room : (log : List (ℕ × E)) (k : Kept S) → StandsAt opening history room start allowance log k → length log < allowance → 0 < room k.value
  has_room log k stands below = let r = stands.room_is in omega arith

pub rest_is : {S : Type 0} (l : List (ℕ × S)) (x : ℕ × S) → l ≡ x ∷ [] → l ≡ x ∷ rest l
rest_is {S} l x e = e ∙ ap (λ (cs : List (ℕ × S)). x ∷ rest cs) (sym e)

-- a pass that has laid the grown value back, with its number, may call the next one
module _ {S E O : Type 0} (opening : S → O) (history : S → List E) (room : S → ℕ) (t : Turn S O E) (p : Pass S E) where
  grown_stands : (h : Held S) (k : Kept S) (n : ℕ) (e : E) → IsGrown opening history room t p h e → k.value ≡ h.kept.value → k.by.items ≡ h.kept.by.items ++ n ∷ [] → vec_capacity k.by ≡ vec_capacity h.kept.by
      → StandsAt opening history room (start_of t) (allowance_of t) ((known_by p).found ++ (n, e) ∷ []) k
  grown_stands h k n e g same items width = record {
    opening_is = ap opening same ∙ g.opening_is;
    history_is = ap history same ∙ (g.history_is ∙ sym (entries_more (known_by p).found n e));
    numbers_are = items ∙ (ap (λ (l : List ℕ). l ++ n ∷ []) g.numbers_are ∙ sym (numbers_more (known_by p).found n e));
    room_is = (let r = g.room_is in let q = ap room same in omega (arith, length-append (known_by p).found ((n, e) ∷ [])));
    numbers_room = (let r = g.numbers_room in omega arith);
  }

  abbrev Rests : (k : Kept S) → Me (Option (Kept S)) (Known S E) → Type 0
  Rests k me = me ≡ (known_by p, (0, Some k) ∷ rest p.seat.me.1)

  pub puts : (slots id : ℕ) (me : Me (Option (Kept S)) (Known S E)) (e : E) (h : Held S) (k : Kept S) (n : ℕ) → Rests k me → HasTurn t p → IsGrown opening history room t p h e
      → k.value ≡ h.kept.value → k.by.items ≡ h.kept.by.items ++ n ∷ [] → n ≡ (known_by p).number → vec_capacity k.by ≡ vec_capacity h.kept.by
      → Allows (TakesTurns opening history room (start_of t) (allowance_of t)) slots id me 1 (λ n. (n + 1) % 2 ^ 64) (CallsOn history (step slots 1 1 0 none) me)
  puts slots id me e h k n is turn g same items number width =
      let m : Me (Option (Kept S)) (Known S E) = (known_by p, (0, Some k) ∷ []) in
      let is' : me ≡ m = is ∙ ap (λ (l : List (ℕ × Option (Kept S))). (known_by p, (0, Some k) ∷ rest l)) turn.slot in
      subst (λ (z : Me (Option (Kept S)) (Known S E)). Allows (TakesTurns opening history room (start_of t) (allowance_of t)) slots id z 1 (λ n. (n + 1) % 2 ^ 64) (CallsOn history (step slots 1 1 0 none) z)) (sym is')
      (calls opening history room (start_of t) (allowance_of t) slots id m e k turn.of.live turn.turn refl (grown_stands h k (known_by p).number e g same (items ∙ ap (λ (a : ℕ). h.kept.by.items ++ a ∷ []) number) width))

  -- what the pass knows once it has called the next number
  pub record HasPut (h : Held S) (m : Me (Option (Kept S)) (Known S E)) : Type 0 where
    pub known : (e : E) → history (value_of h) ≡ map entry_of (known_by p).found ++ e ∷ [] → m.0 ≡ after_put e (known_by p)
    pub history_is : map entry_of m.0.seen ≡ history (value_of h)
    pub seen : IsPrefix (known_by p).seen (known_by p).found
    pub own : calls_by m.0.number m.0.seen ≡ m.0.made
    pub sums : SumsToAllowance m.0
    pub number : m.0.number ≡ (known_by p).number
    pub splits : m.0.splits ≡ (known_by p).splits
    pub start : m.0.start ≡ (known_by p).start
    pub allowance : m.0.allowance ≡ (known_by p).allowance
    pub live : m.0.live ≡ (known_by p).live
    pub no_ticket : m.0.has_ticket ≡ false
    pub no_turn : m.0.has_turn ≡ false
    pub no_slot : m.1 ≡ []

  called : (st : Step (Option (Kept S))) (me m : Me (Option (Kept S)) (Known S E)) (r : ℕ) (h : Held S) (k : Kept S) (e : E) → Rests k me → HasTurn t p → k.value ≡ h.kept.value → CallsOn history st me r m → history (value_of h) ≡ map entry_of (known_by p).found ++ e ∷ []
      → (m ≡ (after_put e (known_by p), [])) × IsPrefix (known_by p).seen (known_by p).found × (calls_by (known_by p).number (after_put e (known_by p)).seen ≡ (after_put e (known_by p)).made) × SumsToAllowance (after_put e (known_by p))
  called st me m r h k e is turn same did grown =
      let z : Me (Option (Kept S)) (Known S E) = (known_by p, (0, Some k) ∷ []) in
      let is' : me ≡ z = is ∙ ap (λ (l : List (ℕ × Option (Kept S))). (known_by p, (0, Some k) ∷ rest l)) turn.slot in
      let did' : CallsOn history st z r m = subst (λ (y : Me (Option (Kept S)) (Known S E)). CallsOn history st y r m) is' did in
      did' e k refl (ap history same ∙ grown)

  pub has_put : (st : Step (Option (Kept S))) (me m : Me (Option (Kept S)) (Known S E)) (r : ℕ) (h : Held S) (k : Kept S) (e : E) → Rests k me → HasTurn t p → k.value ≡ h.kept.value → IsGrown opening history room t p h e → CallsOn history st me r m → HasPut h m
  has_put st me m r h k e is turn same g did =
      let c = called st me m r h k e is turn same did g.history_is in
      subst (λ (y : Me (Option (Kept S)) (Known S E)). HasPut h y) (sym c.0) (record {
        known = (λ e' is'. let other = called st me m r h k e' is turn same did is' in ap (λ (y : Me (Option (Kept S)) (Known S E)). y.0) (sym c.0 ∙ other.0));
        history_is = entries_more (known_by p).found (known_by p).number e ∙ sym g.history_is;
        seen = c.1;
        own = c.2;
        sums = c.3;
        number = refl;
        splits = refl;
        start = refl;
        allowance = refl;
        live = refl;
        no_ticket = refl;
        no_turn = refl;
        no_slot = refl;
      })
