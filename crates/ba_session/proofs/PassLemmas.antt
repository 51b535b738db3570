-- What calls do to what passes know.
use Rattle.std.proofs.Common.{◌≡◌, ◌∙◌, refl, sym, ap, subst, ℕ, ◌+◌, ◌≤◌, ◌==◌, Bool, true, false, List, [], ◌∷◌, ◌++◌, length, length-append, append_assoc, append-nil, cond, arith}
use Rattle.std.proofs.lemmas.Bool.{eqb-false, eqb-true}
use Rattle.ba_cache.specs.Passes.{CallsOn, known_on}
use Rattle.ba_cache.specs.declared.call.ShelfCall.{ShelfCall}
use Rattle.ba_session.specs.Passing.{HasRoom, LeavesVersions, Makes, MakesCalls, ShelfCalls, calls_on}
use Rattle.ba_session.specs.declared.service.Passes.{Passes}
use Rattle.ba_turn.specs.Passes.{MakesCall, known_by}
use Rattle.ba_turn.specs.declared.known.Known.{Known}

-- ---- calls of one pass

module _ {S E : Type 0} where
  pub no_calls : (v w : Known S E) → w ≡ v → MakesCalls v w []
  no_calls v w same = subst (λ z. MakesCalls v z []) (sym same) (record {
    seen = ([], append-nil v.seen);
    made = sym (append-nil v.made);
    left = omega arith;
    number = refl;
    splits = refl;
    joined = refl;
    start = refl;
    allowance = refl;
  })

  pub one_call : (v w : Known S E) (e : E) → MakesCall v w e → MakesCalls v w (e ∷ [])
  one_call v w e call =
      let between = call.seen.0 in
      let front = call.seen.1 in
      let last = call.seen.2 in
      record {
        seen = (front.0 ++ (v.number, e) ∷ [], sym (append_assoc v.seen front.0 ((v.number, e) ∷ [])) ∙ ap (λ z. z ++ (v.number, e) ∷ []) front.1 ∙ sym last);
        made = call.made;
        left = call.left;
        number = call.number;
        splits = call.splits;
        joined = call.joined;
        start = call.start;
        allowance = call.allowance;
      }

  pub more_calls : (u v w : Known S E) (xs ys : List E) → MakesCalls u v xs → MakesCalls v w ys → MakesCalls u w (xs ++ ys)
  more_calls u v w xs ys a b =
      let l = a.left in
      let m = b.left in
      let both = length-append xs ys in
      record {
        seen = (a.seen.0 ++ b.seen.0, sym (append_assoc u.seen a.seen.0 b.seen.0) ∙ ap (λ z. z ++ b.seen.0) a.seen.1 ∙ b.seen.1);
        made = b.made ∙ ap (λ z. z ++ ys) a.made ∙ append_assoc u.made xs ys;
        left = omega arith;
        number = b.number ∙ a.number;
        splits = b.splits ∙ a.splits;
        joined = b.joined ∙ a.joined;
        start = b.start ∙ a.start;
        allowance = b.allowance ∙ a.allowance;
      }

-- ---- calls on shelves

cond_same : {A : Type 0} (t : Bool) (x : A) → cond t x x ≡ x
cond_same true x = refl
cond_same false x = refl

on_none : (k : ℕ) (made : ShelfCalls) → made.calls ≡ [] → calls_on k made ≡ []
on_none k made none = ap (λ z. cond (made.shard == k) z []) none ∙ cond_same (made.shard == k) []

pub makes_none : (made : ShelfCalls) (old new : Passes) → made.calls ≡ [] → new ≡ old → Makes made old new
makes_none made old new none same = record {
  versions = ap (λ (p : Passes). known_by p.versions) same;
  shelves = λ k low.
      subst (MakesCalls (known_on old.cache k) (known_on new.cache k)) (sym (on_none k made none))
      (no_calls (known_on old.cache k) (known_on new.cache k) (ap (λ (p : Passes). known_on p.cache k) same));
}

pub makes_one : (shard : ℕ) (call : ShelfCall) (old new : Passes) → LeavesVersions old new → CallsOn shard old.cache new.cache call → Makes (record { shard = shard; calls = call ∷ [] }) old new
makes_one shard call old new versions calls = record { versions = versions; shelves = λ k low. at k (shard == k) refl }
  where
    at : (k : ℕ) (t : Bool) → (shard == k) ≡ t → MakesCalls (known_on old.cache k) (known_on new.cache k) (cond t (call ∷ []) [])
    at k true e =
        subst (λ z. MakesCalls (known_on old.cache z) (known_on new.cache z) (call ∷ [])) (eqb-true shard k e)
        (one_call (known_on old.cache shard) (known_on new.cache shard) call calls.made)
    at k false e = no_calls (known_on old.cache k) (known_on new.cache k) (calls.others k (λ same. eqb-false shard k e (sym same)))

both_on : (t : Bool) (xs ys : List ShelfCall) → cond t xs [] ++ cond t ys [] ≡ cond t (xs ++ ys) []
both_on true xs ys = refl
both_on false xs ys = refl

pub makes_more : (shard : ℕ) (xs ys : List ShelfCall) (old between new : Passes) → Makes (record { shard = shard; calls = xs }) old between → Makes (record { shard = shard; calls = ys }) between new
    → Makes (record { shard = shard; calls = xs ++ ys }) old new
makes_more shard xs ys old between new a b = record {
  versions = b.versions ∙ a.versions;
  shelves = λ k low.
      subst (MakesCalls (known_on old.cache k) (known_on new.cache k)) (both_on (shard == k) xs ys)
      (more_calls (known_on old.cache k) (known_on between.cache k) (known_on new.cache k) (cond (shard == k) xs []) (cond (shard == k) ys []) (a.shelves k low) (b.shelves k low));
}

-- at least one call less is left
cond_most : (t : Bool) (call : ShelfCall) → length (cond t (call ∷ []) []) ≤ 1
cond_most true call = omega arith
cond_most false call = omega arith

pub room_after : (n shard : ℕ) (call : ShelfCall) (old new : Passes) → HasRoom (n + 1) old → Makes (record { shard = shard; calls = call ∷ [] }) old new → HasRoom n new
room_after n shard call old new room made = record {
  each = λ k low.
      let most = cond_most (shard == k) call in
      let left = (made.shelves k low).left in
      let before = room.each k low in
      omega arith;
}
