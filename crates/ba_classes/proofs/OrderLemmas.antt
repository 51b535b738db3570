-- What an order keeps, when facts are added and nodes are tied.
use Rattle.std.proofs.Common.{◌≡◌, ◌≢◌, ℕ, ◌+◌, ◌^◌, ◌<◌, ℤ, pos, neg_ℤ, ◌+ℤ◌, ◌-ℤ◌, ◌≤ℤ◌, ◌↔◌, List, [], ◌∷◌, ◌++◌, map, get_or, Bool, true, false, ◌||◌, IsTrue, Option, Some, None, cond, nat_eq, refl, sym, ap, ◌∙◌, subst, ◌⊎◌, ⊎_elim, arith}
use Rattle.std.specs.Map.{lookup}
use Rattle.std.proofs.lemmas.Bool.{cases_eq, ne_eqb, eq-eqb, eqb-true}
use Rattle.std.proofs.lemmas.Int.{ints}
use Rattle.std.proofs.lemmas.List.{map_push}
use Rattle.std.proofs.lemmas.List.Elements.{All-push, All-nil}
use Rattle.ba_classes.specs.Best.{Reaches, IsWithin, better, joined, or_nothing}
use Rattle.ba_classes.specs.Chains.{Shows, IsAbsurd}
use Rattle.ba_classes.specs.Closure.{reach, through, IsInRange, IsClosure, HasPlace}
use Rattle.ba_classes.specs.Grid.{Places, IsGrid, IsLast, place_of, between, cell_at}
use Rattle.ba_classes.specs.Tied.{Values, AreSmall, IsTied, IsOrder, base_of, offset_of, based, value_of}
use Rattle.ba_classes.specs.declared.best.Best.{Best}
use Rattle.ba_classes.specs.declared.best.Best.TheVariants.{Absent, Sum}
use Rattle.ba_classes.specs.declared.order.Difference.{Difference}
use Rattle.ba_classes.proofs.BestLemmas.{reaches_right}
use Rattle.ba_classes.proofs.ChainLemmas.{weaken, Shows-none, Shows-more}
use Rattle.ba_classes.proofs.ClosureLemmas.{IsClosure-none, IsClosure-placed, IsClosure-step, IsClosure-shown, IsClosure-copied}
use Rattle.ba_classes.proofs.TiedLemmas.{shown_based, shown_back, shown_unbased, shown_plain, absurd_based, absurd_back, from_tied, to_tied, based_in_range, all_in_range}

-- the empty chain alone is shown and reached
stays : {facts : List Difference} {x y : ℕ} {k : ℤ} → (x ≡ y) × (k ≤ℤ pos 0) → Shows facts x k y
stays {facts} {x} {y} {k} e = subst (λ n. Shows facts x k n) e.0 (weaken k e.1 (Shows-none x))

reaches_staying : (cell : ℕ → ℕ → Best) (x y : ℕ) (k : ℤ) → (x ≡ y) × (k ≤ℤ pos 0) → Reaches (reach cell x y) k
reaches_staying cell x y k e = subst (λ b. Reaches (or_nothing b (cell x y)) k) (sym (eq-eqb x y e.0)) (reaches_right (cell x y) (Sum (pos 0)) k e.1)

only_staying : (x y : ℕ) (k : ℤ) (one : Bool) → nat_eq x y ≡ one → Reaches (or_nothing one Absent) k → (x ≡ y) × (k ≤ℤ pos 0)
only_staying x y k true e h = (eqb-true x y e, h)
only_staying x y k false e h = absurd h

pub fact_in_range : (value : ℕ → Option ℤ) → AreSmall value → (given : Difference) → IsInRange (2 ^ 65) given → (fact : Difference) → fact ≡ based value given → IsInRange (2 ^ 66) fact
fact_in_range value small given range fact fact_is = subst (IsInRange (2 ^ 66)) (sym fact_is) (based_in_range value small given range)

pub through_within : (gains : Bool) (gap : ℤ) → neg_ℤ (pos (2 ^ 66)) ≤ℤ gap → gap ≤ℤ pos (2 ^ 66) → IsWithin (2 ^ 66) (through gains gap)
through_within true gap above below = tt
through_within false gap above below = (above, below)

pub IsOrder-none : (value : ℕ → Option ℤ) (places : Places) (rows : List (List Best)) → ((n : ℕ) → value n ≡ None) → places.count ≡ 0 → ((x y : ℕ) → between places rows x y ≡ Absent) → IsOrder [] value places rows false
IsOrder-none value places rows untied unnamed absent = record {
  in_range = All-nil (IsInRange (2 ^ 65));
  are_tied = λ n v e. absurd (let both : Some v ≡ None = sym e ∙ untied n in cc);
  closure = IsClosure-none places rows unnamed absent;
}

module _ (facts : List Difference) (value : ℕ → Option ℤ) (places : Places) (rows : List (List Best)) (is_absurd : Bool) (order : IsOrder facts value places rows is_absurd) where
  -- the best of the chains between the bases of two nodes, less the gap between them, reaches what is shown
  pub best_is : (low high : ℕ) (fact : Difference) → fact ≡ based value (record { low = low; gap = pos 0; high = high }) → (seen best : Best) → seen ≡ reach (between places rows) fact.low fact.high → ((k : ℤ) → Reaches best k ↔ Reaches seen (fact.gap +ℤ k)) → (k : ℤ) → Reaches best k ↔ Shows facts low k high
  best_is low high fact fact_is seen best seen_is less k =
      let gap_is : (fact.gap +ℤ k) ≡ ((offset_of (value low) +ℤ k) -ℤ offset_of (value high)) = omega (arith, ints, ap (λ (f : Difference). f.gap) fact_is) in
      let over : Reaches seen (fact.gap +ℤ k) ↔ Shows (map (based value) facts) fact.low (fact.gap +ℤ k) fact.high =
      subst (λ b. Reaches b (fact.gap +ℤ k) ↔ Shows (map (based value) facts) fact.low (fact.gap +ℤ k) fact.high) (sym seen_is)
      (order.closure.exact.sound _ _ _, order.closure.exact.complete _ _ _) in
      let shown : Shows (map (based value) facts) fact.low (fact.gap +ℤ k) fact.high ≡ Shows (map (based value) facts) (base_of (value low) low) ((offset_of (value low) +ℤ k) -ℤ offset_of (value high)) (base_of (value high) high) =
      ap (λ j. Shows (map (based value) facts) fact.low j fact.high) gap_is ∙ ap (λ (f : Difference). Shows (map (based value) facts) f.low ((offset_of (value low) +ℤ k) -ℤ offset_of (value high)) f.high) fact_is in (
        λ h. shown_unbased facts value order.are_tied (subst (λ T. T) shown (over.0 ((less k).0 h))),
        λ s. (less k).1 (over.1 (subst (λ T. T) (sym shown) (shown_based facts value order.are_tied s))),
      )

  pub flag_based : IsTrue is_absurd ↔ IsAbsurd facts
  flag_based = (λ e. absurd_back facts value order.are_tied (order.closure.flag.0 e), λ a. order.closure.flag.1 (absurd_based facts value order.are_tied a))

  tied_still : (fact : Difference) (n : ℕ) (v : ℤ) → value n ≡ Some v → IsTied (facts ++ fact ∷ []) n v
  tied_still fact n v e =
      let t = order.are_tied n v e in
      record { other = t.other; at_least = Shows-more (fact ∷ []) t.at_least; at_most = Shows-more (fact ∷ []) t.at_most }

  -- naming a node changes nothing
  pub IsOrder-placed : (after : Places) (wider : List (List Best)) (node : ℕ) → node < 2 ^ 32 → ((x p : ℕ) → place_of places x ≡ Some p → place_of after x ≡ Some p) → ((p : ℕ) → p < after.count → (p < places.count) ⊎ (place_of after node ≡ Some p)) → ((x y : ℕ) → between after wider x y ≡ between places rows x y) → IsOrder facts value after wider is_absurd
  IsOrder-placed after wider node small kept named same = record {
    in_range = order.in_range;
    are_tied = order.are_tied;
    closure = IsClosure-placed (map (based value) facts) places after rows wider is_absurd node small kept named same order.closure;
  }

  -- the closure with a fact over the bases
  pub IsOrder-more : (fact : Difference) → IsInRange (2 ^ 65) fact → (after : Places) (raised : List (List Best)) (flag : Bool) → IsClosure (map (based value) facts ++ based value fact ∷ []) after raised flag → IsOrder (facts ++ fact ∷ []) value after raised flag
  IsOrder-more fact range after raised flag closure = record {
    in_range = All-push (IsInRange (2 ^ 65)) facts fact order.in_range range;
    are_tied = tied_still fact;
    closure = subst (λ fs. IsClosure fs after raised flag) (sym (map_push (based value) facts fact)) closure;
  }

  -- the same, over what the code read
  pub IsOrder-step : AreSmall value → (grid : IsGrid places rows) (given : Difference) (range : IsInRange (2 ^ 65) given) (fact : Difference) (fact_is : fact ≡ based value given) (from to : ℕ) (low_placed : place_of places fact.low ≡ Some from) (high_placed : place_of places fact.high ≡ Some to) (gains : Bool) (seen by : Best) (least : ℤ) (onward : List Best) (onward_is : (j : ℕ) → j < places.count → get_or onward j Absent ≡ or_nothing (nat_eq to j) (cell_at rows to j)) (said : IsTrue gains ↔ Reaches seen least) (seen_is : seen ≡ get_or onward from Absent) (least_is : least ≡ pos 1 +ℤ neg_ℤ fact.gap) (by_is : by ≡ through gains fact.gap) (after : Places) (raised : List (List Best)) (same_places : (x : ℕ) → place_of after x ≡ place_of places x) (len : after.count ≡ places.count) (cells : (i j : ℕ) → cell_at raised i j ≡ better (cell_at rows i j) (joined (joined (or_nothing (nat_eq i from) (cell_at rows i from)) by) (get_or onward j Absent))) → IsOrder (facts ++ given ∷ []) value after raised (is_absurd || gains)
  IsOrder-step small grid given range fact fact_is from to low_placed high_placed gains seen by least onward onward_is said seen_is least_is by_is after raised same_places len cells =
      IsOrder-more given range after raised (is_absurd || gains)
      (subst (λ f. IsClosure (map (based value) facts ++ f ∷ []) after raised (is_absurd || gains)) fact_is
      (IsClosure-step (map (based value) facts) places rows is_absurd grid order.closure fact (fact_in_range value small given range fact fact_is) from to low_placed high_placed gains seen by least onward onward_is said seen_is least_is by_is after raised same_places len cells))

  pub IsOrder-shown : AreSmall value → (fact : Difference) → IsInRange (2 ^ 65) fact → Shows facts fact.low fact.gap fact.high → IsOrder (facts ++ fact ∷ []) value places rows is_absurd
  IsOrder-shown small fact range already =
      IsOrder-more fact range places rows is_absurd
      (IsClosure-shown (map (based value) facts) (based value fact) (shown_based facts value order.are_tied already) places rows is_absurd (based_in_range value small fact range) order.closure)

  module _ (new : ℕ → Option ℤ) (small : AreSmall new) (node : ℕ) (v : ℤ) (updated : (n : ℕ) → new n ≡ cond (nat_eq node n) (Some v) (value n)) (other : ¬ (node ≡ 0)) (comes : between places rows 0 node ≡ Sum v) (goes : Reaches (between places rows node 0) (neg_ℤ v)) where
    new_here : new node ≡ Some v
    new_here = updated node ∙ ap (λ b. cond b (Some v) (value node)) (eq-eqb node node refl)

    new_elsewhere : (n : ℕ) → n ≢ node → new n ≡ value n
    new_elsewhere n apart = updated n ∙ ap (λ b. cond b (Some v) (value n)) (ne_eqb node n (λ e. apart (sym e)))

    node_is_tied : IsTied facts node v
    node_is_tied = record {
      other = other;
      at_least = shown_back facts value order.are_tied (order.closure.exact.sound 0 node v (subst (λ b. Reaches (or_nothing b (between places rows 0 node)) v) (sym (ne_eqb 0 node (λ e. other (sym e)))) (subst (λ b. Reaches b v) (sym comes) (omega (arith, ints)))));
      at_most = shown_back facts value order.are_tied (order.closure.exact.sound node 0 (neg_ℤ v) (subst (λ b. Reaches (or_nothing b (between places rows node 0)) (neg_ℤ v)) (sym (ne_eqb node 0 other)) goes));
    }

    new_are_tied : (n : ℕ) (w : ℤ) → new n ≡ Some w → IsTied facts n w
    new_are_tied n w e =
        ⊎_elim
        (λ (here : n ≡ node). let same : Some v ≡ Some w = sym new_here ∙ ap new (sym here) ∙ e in let value_is : v ≡ w = cc in subst (λ m. IsTied facts m w) (sym here) (subst (IsTied facts node) value_is node_is_tied))
        (λ (apart : n ≡ node → ⊥). order.are_tied n w (sym (new_elsewhere n apart) ∙ e))
        (cases_eq n node)

    module _ (after : Places) (cut : List (List Best)) (last : IsLast places node) (len : after.count + 1 ≡ places.count) (gone : place_of after node ≡ None) (kept : (x : ℕ) → x ≢ node → place_of after x ≡ place_of places x) (same : (x y : ℕ) → x ≢ node → y ≢ node → between after cut x y ≡ between places rows x y) where
      abbrev cells : ℕ → ℕ → Best
      cells = between after cut

      gone_from : (y : ℕ) → cells node y ≡ Absent
      gone_from y = rw gone refl

      gone_to : (x : ℕ) (p : Option ℕ) → place_of after x ≡ p → cells x node ≡ Absent
      gone_to x None e = rw e refl
      gone_to x (Some p) e = rw (e, gone) refl

      still_named : (p : ℕ) → p < after.count → HasPlace after p
      still_named p h =
          let had = order.closure.named p (omega (arith, len)) in
          let apart : had.node ≢ node = λ e. absurd (
          let both : Some p ≡ Some last.place = sym had.placed ∙ ap (place_of places) e ∙ last.placed in
          let one : p ≡ last.place = cc in omega (arith, one, h, len, last.last)) in
          record { node = had.node; small = had.small; placed = kept had.node apart ∙ had.placed }

      -- at the node that was given back there is the empty chain alone
      at_node_from : (y : ℕ) (k : ℤ) → Reaches (reach cells node y) k → (node ≡ y) × (k ≤ℤ pos 0)
      at_node_from y k h = only_staying node y k (nat_eq node y) refl (subst (λ b. Reaches (or_nothing (nat_eq node y) b) k) (gone_from y) h)

      at_node_to : (x : ℕ) (k : ℤ) → Reaches (reach cells x node) k → (x ≡ node) × (k ≤ℤ pos 0)
      at_node_to x k h = only_staying x node k (nat_eq x node) refl (subst (λ b. Reaches (or_nothing (nat_eq x node) b) k) (gone_to x (place_of after x) refl) h)

      -- elsewhere there is what was
      sound_elsewhere : (x y : ℕ) (k : ℤ) → x ≢ node → y ≢ node → Reaches (reach cells x y) k → Shows (map (based value) facts) x k y
      sound_elsewhere x y k a b h = order.closure.exact.sound x y k (subst (λ c. Reaches (or_nothing (nat_eq x y) c) k) (same x y a b) h)

      sound_by : (x y : ℕ) (k : ℤ) → x ≢ node → y ≢ node → (o p : Option ℤ) → value x ≡ o → value y ≡ p → Shows (map (based value) facts) x k y → Shows (map (based new) facts) x k y
      sound_by x y k a b None None e g s = shown_plain facts new new_are_tied (new_elsewhere x a ∙ e) (new_elsewhere y b ∙ g) (shown_back facts value order.are_tied s)
      sound_by x y k a b None (Some w) e g s = stays (to_tied facts value order.are_tied w g s)
      sound_by x y k a b (Some w) p e g s = stays (from_tied facts value order.are_tied w e s)

      sound : (x y : ℕ) (k : ℤ) → Reaches (reach cells x y) k → Shows (map (based new) facts) x k y
      sound x y k h =
          ⊎_elim
          (λ (e : x ≡ node). stays (let at = at_node_from y k (subst (λ n. Reaches (reach cells n y) k) e h) in (e ∙ at.0, at.1)))
          (λ (a : x ≡ node → ⊥).
          ⊎_elim
          (λ (e : y ≡ node). stays (let at = at_node_to x k (subst (λ n. Reaches (reach cells x n) k) e h) in (at.0 ∙ sym e, at.1)))
          (λ (b : y ≡ node → ⊥). sound_by x y k a b (value x) (value y) refl refl (sound_elsewhere x y k a b h))
          (cases_eq y node))
          (cases_eq x node)

      untied_apart : (x : ℕ) → new x ≡ None → x ≢ node
      untied_apart x e here = absurd (let both : Some v ≡ None = sym new_here ∙ ap new (sym here) ∙ e in cc)

      complete_by : (x y : ℕ) (k : ℤ) (o p : Option ℤ) → new x ≡ o → new y ≡ p → Shows (map (based new) facts) x k y → Reaches (reach cells x y) k
      complete_by x y k None None e g s =
          let a = untied_apart x e in
          let b = untied_apart y g in
          subst (λ c. Reaches (or_nothing (nat_eq x y) c) k) (sym (same x y a b))
          (order.closure.exact.complete x y k
          (shown_plain facts value order.are_tied (sym (new_elsewhere x a) ∙ e) (sym (new_elsewhere y b) ∙ g) (shown_back facts new new_are_tied s)))
      complete_by x y k None (Some w) e g s = reaches_staying cells x y k (to_tied facts new new_are_tied w g s)
      complete_by x y k (Some w) p e g s = reaches_staying cells x y k (from_tied facts new new_are_tied w e s)

      pub IsOrder-tied : IsOrder facts new after cut is_absurd
      IsOrder-tied = record {
        in_range = order.in_range;
        are_tied = new_are_tied;
        closure = record {
          in_range = all_in_range new small facts order.in_range;
          named = still_named;
          exact = record { sound = sound; complete = λ x y k s. complete_by x y k (new x) (new y) refl refl s };
          flag = (
            λ e. absurd_based facts new new_are_tied (flag_based.0 e),
            λ a. flag_based.1 (absurd_back facts new new_are_tied a),
          );
        };
      }

-- the same values
pub IsOrder-same : (facts : List Difference) (values more : Values) (places : Places) (rows : List (List Best)) (is_absurd : Bool) → more.entries ≡ values.entries → IsOrder facts (value_of values) places rows is_absurd → IsOrder facts (value_of more) places rows is_absurd
IsOrder-same facts values more places rows is_absurd same_values order =
    let same : value_of more ≡ value_of values = ap (λ es n. lookup (nat_eq n) es) same_values in
    subst (λ value. IsOrder facts value places rows is_absurd) (sym same) order

-- the same values, places and rows
pub IsOrder-copied : (facts : List Difference) (values more : Values) (places copied : Places) (rows wider : List (List Best)) (is_absurd : Bool) → more.entries ≡ values.entries → copied ≡ places → wider ≡ rows → IsOrder facts (value_of values) places rows is_absurd → IsOrder facts (value_of more) copied wider is_absurd
IsOrder-copied facts values more places copied rows wider is_absurd same_values same_places same_rows order =
    IsOrder-same facts values more copied wider is_absurd same_values
    (record {
      in_range = order.in_range;
      are_tied = order.are_tied;
      closure = IsClosure-copied (map (based (value_of values)) facts) places copied rows wider is_absurd same_places same_rows order.closure;
    })
