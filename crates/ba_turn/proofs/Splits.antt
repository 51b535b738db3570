-- Splitting and joining keep the rule of a turn.
use mathlib.Core.List.{IsPrefix}
use mathlib.Core.Logic.{dite}
use mathlib.Core.Option.{some}
use native.Mathlib.Decide.{ℕ_discrete}
use lib.ListN.{get_elem?}
use Rattle.std.proofs.Common.{◌≡◌, ◌≢◌, ℕ, suc, ◌+◌, ◌≤◌, true, false, List, [], ◌∷◌, ◌++◌, map, length, set, sym, refl, ap, ◌∙◌, subst, ⊎_elim, arith, Option, length-set}
use Rattle.std.proofs.lemmas.List.Elements.{All-cons}
use Rattle.std.proofs.lemmas.List.Kept.{AllPairs-cons}
use Rattle.std.proofs.lemmas.List.Sums.{sum_by-append}
use Rattle.atomic_table.specs.Table.{State, Me, Splits, Joins}
use Rattle.atomic_table.proofs.Lists.{at_set, set_here, set_else, at_longer}
use Rattle.ba_turn.specs.declared.known.Kept.{Kept}
use Rattle.ba_turn.specs.declared.known.Known.{Known}
use Rattle.ba_turn.specs.History.{number_of, longer_of, AreDistinct}
use Rattle.ba_turn.specs.Knowing.{after_split, split_known, after_join, spent_known, numbers_of}
use Rattle.ba_turn.specs.Rule.{Scene, IsTrueOf, AllJoined, left_of, live_of, HoldsTicket, SomeHasSeen, TakesTurns}
use Rattle.ba_turn.proofs.Lists.{sum_set, same_at, is_within, at_end, prefix_length, alone_differs, replaced, replaced_here, replaced_else}
use Rattle.ba_turn.proofs.Histories.{longer_either, joined_map, joined_else}
use Rattle.ba_turn.proofs.Steps.{true_not_false, one_if, still, knows_still}

module _ {S E O : Type 0} (opening : S → O) (history : S → List E) (room : S → ℕ) (start : S) (allowance : ℕ) where
  abbrev V : Type 0
  V = Known S E

  abbrev St : Type 0
  St = State (Option (Kept S)) V

  abbrev M : Type 0
  M = Me (Option (Kept S)) V

  abbrev Rule : St → Type 0
  Rule = TakesTurns opening history room start allowance

  abbrev Fact : Scene S E → ℕ → V → Type 0
  Fact = IsTrueOf start allowance

  longer_holds : (vs : List V) (u : V) (j k : ℕ) → HoldsTicket vs j k → HoldsTicket (vs ++ u ∷ []) j k
  longer_holds vs u j k h = record { view = h.view; at = at_longer vs (u ∷ []) j h.view h.at; live = h.live; has_ticket = h.has_ticket; ticket = h.ticket }

  longer_knows : (vs : List V) (u : V) (n : ℕ) → SomeHasSeen vs n → SomeHasSeen (vs ++ u ∷ []) n
  longer_knows vs u n h = record { seat = h.seat; view = h.view; at = at_longer vs (u ∷ []) h.seat h.view h.at; live = h.live; seen = h.seen }

  pub splits : (id : ℕ) (v : V) (a : ℕ) → v.live ≡ true → v.has_ticket ≡ false → v.has_turn ≡ false → v.number ≡ 0 → a ≤ v.left → Splits Rule id v (after_split a v) (split_known a v)
  splits id v a live idle idle' zero_is fits s r at =
      let x : Scene S E = r.x in
      let f = r.each id v at live in
      let o = f.opens zero_is in
      let o0 = o.0 in
      let w : V = after_split a v in
      let u : V = split_known a v in
      let here : ℕ = length s.views in
      let n : ℕ = x.last + 1 in
      let vs : List V = set s.views id w in
      let count : length vs ≡ here = length-set s.views id w in
      let id_in = is_within s.views id v at in
      let p : ℕ → ℕ = replaced x.place n (here + 1) in
      let y : Scene S E = record x { last = n; place = p } in
      let number_is : v.splits + 1 ≡ n = omega arith in
      let apart : (m : ℕ) → m ≤ x.last → p m ≡ x.place m = λ m h. replaced_else x.place n (here + 1) m (λ e. omega arith) in
      let joins : (l : List (ℕ × List E)) → AllJoined x l → AllJoined y l = λ l. joined_map x y l (λ m cs h. record { calls_are = h.calls_are; free = apart m h.known ∙ h.free; known = (let z = h.known in omega arith) }) in
      record {
        x = y;
        words = r.words;
        homes = r.homes;
        stands = r.stands;
        busy = r.busy;
        order = r.order;
        logged = r.logged;
        sum = (let t = sum_set left_of s.views id v w at in let q = sum_by-append left_of vs (u ∷ []) in let z = r.sum in omega arith);
        small = r.small;
        fresh = λ m more. r.fresh m (omega arith);
        alive = (let t = sum_set live_of s.views id v w at in let q = sum_by-append live_of vs (u ∷ []) in let z = r.alive in let one : live_of v ≡ 1 = ap one_if live in let one' : live_of w ≡ 1 = ap one_if live in omega arith);
        spent = λ j b e gone. ⊎_elim (λ (q : get_elem? vs j ≡ some b). ⊎_elim (λ (t : (j ≡ id) × (w ≡ b)). true_not_false b.live (ap (λ (z : V). z.live) (sym t.1) ∙ live) gone) (λ (t : (j ≢ id) × (get_elem? s.views j ≡ some b)). r.spent j b t.1 gone) (at_set s.views id j w b q))
            (λ (t : (j ≡ length vs) × (u ≡ b)). true_not_false b.live (ap (λ (z : V). z.live) (sym t.1)) gone) (at_end vs u b j e);
        queue = λ k low high. longer_holds vs u (x.owner k) k (still opening history room start allowance s.views id v w (x.owner k) k at (λ d t. true_not_false v.has_ticket d idle) (r.queue k low high));
        known = longer_knows vs u x.serving (knows_still opening history room start allowance s.views id v w x.serving at (λ h. (live, h)) r.known);
        each = λ j b e now. ⊎_elim
            (λ (q : get_elem? vs j ≡ some b). ⊎_elim
            (λ (t : (j ≡ id) × (w ≡ b)). subst (λ (z : ℕ × V). Fact y z.0 z.1) (λ i. (sym t.0 i, t.1 i)) (record {
              seen = f.seen;
              behind = f.behind;
              made = f.made;
              placed = apart v.number f.known ∙ f.placed;
              known = (let z = f.known in omega arith);
              opens = λ _. (number_is, o.1);
              joined = joins v.joined f.joined;
              apart = f.apart;
              has_ticket = λ d. true_not_false v.has_ticket d idle;
              has_turn = λ d. true_not_false v.has_turn d idle';
              start_is = f.start_is;
              allowance_is = f.allowance_is;
            }))
            (λ (t : (j ≢ id) × (get_elem? s.views j ≡ some b)). let g = r.each j b t.1 now in record {
              seen = g.seen;
              behind = g.behind;
              made = g.made;
              placed = apart b.number g.known ∙ g.placed;
              known = (let z = g.known in omega arith);
              opens = λ z. absurd (let q : x.place b.number ≡ x.place v.number = ap x.place (z ∙ sym zero_is) in let pb = g.placed in let pv = f.placed in t.0 (omega arith));
              joined = joins b.joined g.joined;
              apart = g.apart;
              has_ticket = g.has_ticket;
              has_turn = g.has_turn;
              start_is = g.start_is;
              allowance_is = g.allowance_is;
            })
            (at_set s.views id j w b q))
            (λ (t : (j ≡ length vs) × (u ≡ b)). subst (λ (z : ℕ × V). Fact y z.0 z.1) (λ i. (sym t.0 i, t.1 i)) (record {
              seen = f.seen;
              behind = (x.log, refl);
              made = r.fresh (v.splits + 1) (omega arith);
              placed = ap p number_is ∙ (replaced_here x.place n (here + 1) ∙ ap (λ (m : ℕ). m + 1) (sym count));
              known = omega arith;
              opens = λ z. absurd (omega arith);
              joined = tt;
              apart = alone_differs (v.splits + 1);
              has_ticket = λ (d : false ≡ true). true_not_false true refl (sym d);
              has_turn = λ (d : false ≡ true). true_not_false true refl (sym d);
              start_is = f.start_is;
              allowance_is = f.allowance_is;
            }))
            (at_end vs u b j e);
      }

  pub joins : (id : ℕ) (v : V) (other : ℕ) (w : V) → v.live ≡ true → v.has_ticket ≡ false → v.has_turn ≡ false → v.number ≡ 0 → w.live ≡ true → w.has_ticket ≡ false → w.has_turn ≡ false → Joins Rule id v other w (after_join v w) spent_known
  joins id v other w live idle idle' zero_is live_w idle_w idle_w' s r at apart_seats at_w =
      let x : Scene S E = r.x in
      let b2 : V = after_join v w in
      let vs : List V = set s.views id b2 in
      let at_other : get_elem? s.views other ≡ some w = sym (set_else s.views id other b2 apart_seats) ∙ at_w in
      let f = r.each id v at live in
      let h = r.each other w at_other live_w in
      let p : ℕ → ℕ = replaced x.place w.number 0 in
      let y : Scene S E = record x { place = p; gone = x.gone + 1 } in
      let numbers : (j : ℕ) (b : V) → j ≢ other → Fact x j b → b.number ≢ w.number = λ j b ne g e. (let q : x.place b.number ≡ x.place w.number = ap x.place e in let pb = g.placed in let pw = h.placed in ne (omega arith)) in
      let keep : (j : ℕ) (b : V) → j ≢ other → Fact x j b → p b.number ≡ j + 1 = λ j b ne g. replaced_else x.place w.number 0 b.number (numbers j b ne g) ∙ g.placed in
      let all : (l : List (ℕ × List E)) → AllJoined x l → AllJoined y l = λ l. joined_map x y l (λ m cs q. record {
        calls_are = q.calls_are;
        free = replaced_else x.place w.number 0 m (λ (e : m ≡ w.number). let z = q.free in let pw = h.placed in let same : x.place m ≡ x.place w.number = ap x.place e in omega arith) ∙ q.free;
        known = q.known;
      }) in
      let not_id : id ≢ other = λ e. apart_seats (sym e) in
      let fp = f.placed in
      let hp = h.placed in
      let rest : List ℕ = map number_of v.joined in
      let apart_now : AreDistinct (numbers_of b2) = AllPairs-cons (λ n m. n ≢ m) v.number (w.number ∷ rest)
      (All-cons (λ m. v.number ≢ m) w.number rest (numbers id v not_id f) (joined_else x v.number v.joined (omega arith) f.joined))
      (AllPairs-cons (λ n m. n ≢ m) w.number rest (joined_else x w.number v.joined (omega arith) f.joined) (λ i j d lt within. f.apart (suc i) (suc j) d (omega arith) (omega arith))) in
      let id_in = is_within s.views id v at in
      let at_id : get_elem? vs id ≡ some b2 = set_here s.views id b2 id_in in
      let lengths = longer_either (λ l m. (length v.seen ≤ length l) × (length w.seen ≤ length l) × IsPrefix l x.log × IsPrefix m x.log) v.seen w.seen (λ q. (q, omega arith, h.seen, f.seen)) (λ q. (omega arith, omega arith, f.seen, h.seen)) in
      let lv = lengths.0 in
      let lw = lengths.1 in
      let most = prefix_length (longer_of v.seen w.seen) x.log lengths.2 in
      let logged = r.logged in
      record {
        x = y;
        words = r.words;
        homes = r.homes;
        stands = r.stands;
        busy = r.busy;
        order = r.order;
        logged = r.logged;
        sum = (let t = sum_set left_of s.views id v b2 at in let q = sum_set left_of vs other w spent_known at_w in let z = r.sum in omega arith);
        small = r.small;
        fresh = r.fresh;
        alive = (let t = sum_set live_of s.views id v b2 at in let q = sum_set live_of vs other w spent_known at_w in let z = r.alive in let one : live_of v ≡ 1 = ap one_if live in let one' : live_of b2 ≡ 1 = ap one_if live in let one'' : live_of w ≡ 1 = ap one_if live_w in omega arith);
        spent = λ j b e gone. ⊎_elim (λ (t : (j ≡ other) × (spent_known ≡ b)). ap (λ (z : V). z.left) (sym t.1))
            (λ (q : (j ≢ other) × (get_elem? vs j ≡ some b)). ⊎_elim (λ (t : (j ≡ id) × (b2 ≡ b)). true_not_false b.live (ap (λ (z : V). z.live) (sym t.1) ∙ live) gone) (λ (t : (j ≢ id) × (get_elem? s.views j ≡ some b)). r.spent j b t.1 gone) (at_set s.views id j b2 b q.1))
            (at_set vs other j spent_known b e);
        queue = λ k low high. still opening history room start allowance vs other w spent_known (x.owner k) k at_w (λ d t. true_not_false w.has_ticket d idle_w)
            (still opening history room start allowance s.views id v b2 (x.owner k) k at (λ d t. true_not_false v.has_ticket d idle) (r.queue k low high));
        known = (let k = r.known in dite (ℕ_discrete k.seat other)
            (λ e. let same : k.view ≡ w = same_at s.views other k.view w (subst (λ (i : ℕ). get_elem? s.views i ≡ some k.view) e k.at) at_other in let n : length w.seen ≡ x.serving = ap (λ (z : V). length z.seen) (sym same) ∙ k.seen in
            record { seat = id; view = b2; at = set_else vs other id spent_known not_id ∙ at_id; live = live; seen = omega arith })
            (λ ne. dite (ℕ_discrete k.seat id)
            (λ e. let same : k.view ≡ v = same_at s.views id k.view v (subst (λ (i : ℕ). get_elem? s.views i ≡ some k.view) e k.at) at in let n : length v.seen ≡ x.serving = ap (λ (z : V). length z.seen) (sym same) ∙ k.seen in
            record { seat = id; view = b2; at = set_else vs other id spent_known not_id ∙ at_id; live = live; seen = omega arith })
            (λ ne'. record { seat = k.seat; view = k.view; at = set_else vs other k.seat spent_known ne ∙ (set_else s.views id k.seat b2 ne' ∙ k.at); live = k.live; seen = k.seen })));
        each = λ j b e now. ⊎_elim (λ (t : (j ≡ other) × (spent_known ≡ b)). true_not_false b.live now (ap (λ (z : V). z.live) (sym t.1)))
            (λ (q : (j ≢ other) × (get_elem? vs j ≡ some b)). ⊎_elim
            (λ (t : (j ≡ id) × (b2 ≡ b)). subst (λ (z : ℕ × V). Fact y z.0 z.1) (λ i. (sym t.0 i, t.1 i)) (record {
              seen = lengths.2;
              behind = lengths.3;
              made = f.made;
              placed = keep id v not_id f;
              known = f.known;
              opens = λ z. let o = f.opens z in let o1 = o.1 in (o.0, omega arith);
              joined = (record { calls_are = h.made; free = replaced_here x.place w.number 0; known = h.known }, all v.joined f.joined);
              apart = apart_now;
              has_ticket = λ d. true_not_false v.has_ticket d idle;
              has_turn = λ d. true_not_false v.has_turn d idle';
              start_is = f.start_is;
              allowance_is = f.allowance_is;
            }))
            (λ (t : (j ≢ id) × (get_elem? s.views j ≡ some b)). let g = r.each j b t.1 now in record {
              seen = g.seen;
              behind = g.behind;
              made = g.made;
              placed = keep j b q.0 g;
              known = g.known;
              opens = λ z. absurd (let m : x.place b.number ≡ x.place v.number = ap x.place (z ∙ sym zero_is) in let pb = g.placed in let pv = f.placed in t.0 (omega arith));
              joined = all b.joined g.joined;
              apart = g.apart;
              has_ticket = g.has_ticket;
              has_turn = g.has_turn;
              start_is = g.start_is;
              allowance_is = g.allowance_is;
            })
            (at_set s.views id j b2 b q.1))
            (at_set vs other j spent_known b e);
      }
