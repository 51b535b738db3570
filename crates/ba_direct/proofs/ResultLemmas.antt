-- Steps of the search over views and parts.
use Rattle.std.proofs.Common.{◌≡◌, ℕ, suc, ◌+◌, ◌<◌, ◌≤◌, List, [], ◌∷◌, ◌++◌, length, get_or, take, refl, sym, ap, ◌∙◌, subst, arith}
use Rattle.std.proofs.lemmas.List.{take_all, take_more}
use Rattle.std.proofs.lemmas.Option.{get_or_from_slice_get, slice_get_within}
use Rattle.std.specs.List.{AllZip}
use Rattle.std.specs.Prelude.{MatchOption, None, Option, Some, slice_get}
use Rattle.ba_model.specs.declared.policy.Context.{Context}
use Rattle.ba_model.specs.declared.policy.Policy.{Policy}
use Rattle.ba_model.specs.declared.policy.View.{View}
use Rattle.ba_model.specs.declared.query.Part.{Part}
use Rattle.ba_model.specs.declared.query.Query.{Query}
use Rattle.ba_direct.proofs.CoverLemmas.{cover_covers, covered_is_strong}
use Rattle.ba_direct.proofs.PlaceLemmas.{as_many_tables}
use Rattle.ba_direct.specs.Cover.{AlwaysStrong, CoversBy, CoversPart, IsCover, IsFirst, IsFirstCover, PartCovered}
use Rattle.ba_direct.specs.Search.{IsFirstBy, IsFirstFrom, NoneBy, NoneFrom, only_of}
use Rattle.ba_direct.specs.declared.covers.Cover.{Cover}
use Rattle.ba_direct.specs.declared.covers.PartCover.{PartCover}

only_is : {X : Type 0} (xs : List X) (x : X) → Some x ≡ only_of xs → xs ≡ x ∷ []
only_is [] x e = cc
only_is (y ∷ []) x e = let k : y ≡ x = cc in ap (λ z. z ∷ []) k
only_is (y ∷ z ∷ zs) x e = cc

module _ (policy : Policy) (c : Context) (q : Part) (n : ℕ) (view : View) (listed : slice_get policy.views n ≡ Some view) where
  -- a cover by the view with this number is one by this view
  parts_are : (other : PartCover) → other.view ≡ n → (h : CoversPart policy c q other) → view.query.parts ≡ h.part ∷ []
  parts_are other is h =
      let same : view ≡ h.view = (let k : slice_get policy.views n ≡ Some h.view = ap (slice_get policy.views) (sym is) ∙ h.view_is in cc) in
      ap (λ v. v.query.parts) same ∙ h.part_is

  pub none_of_parts : None ≡ only_of view.query.parts → NoneBy policy c q n
  none_of_parts none = record { none = λ other is h. let k = none ∙ ap only_of (parts_are other is h) in cc }

  module _ (part : Part) (only : Some part ≡ only_of view.query.parts) where
    by_part : (other : PartCover) → other.view ≡ n → CoversPart policy c q other → CoversBy c part q other.places
    by_part other is h =
        let same : h.part ≡ part = (let k = sym (parts_are other is h) ∙ only_is view.query.parts part only in cc) in
        subst (λ p. CoversBy c p q other.places) same h.by

    covers_here : (to : List ℕ) → CoversBy c part q to → CoversPart policy c q (record { view = n; places = to })
    covers_here to by = record { view = view; part = part; view_is = listed; part_is = only_is view.query.parts part only; by = by }

    pub none_of_tables : (length part.from ≡ length q.from → ⊥) → NoneBy policy c q n
    none_of_tables differ =
        record {
          none = λ other is h.
              let by = by_part other is h in
              differ (as_many_tables q.from other.places part.from by.pairs.tables ∙ by.pairs.as_many);
        }

    pub none_of_pairings : NoneFrom c part q [] → NoneBy policy c q n
    none_of_pairings none = record { none = λ other is h. none.none other.places (by_part other is h) }

    pub first_of_pairings : (to : List ℕ) → IsFirstFrom c part q [] to → IsFirstBy policy c q n (record { view = n; places = to })
    first_of_pairings to found =
        record {
          view_is = refl;
          covers = covers_here to found.covers;
          first = λ other is less h. found.first other.places less (by_part other is h);
        }

module _ (policy : Policy) (c : Context) (q : Part) where
  pub first_of_views : (n : ℕ) (cover : PartCover) → ((k : ℕ) → k < n → NoneBy policy c q k) → IsFirstBy policy c q n cover → IsFirst policy c q cover
  first_of_views n cover tried found =
      record {
        covers = found.covers;
        views = λ other below h. (tried other.view (subst (λ v. other.view < v) found.view_is below)).none other refl h;
        pairings = found.first;
      }

  pub none_of_views : (n : ℕ) → n ≡ length policy.views → ((k : ℕ) → k < n → NoneBy policy c q k) → PartCovered policy c q → ⊥
  none_of_views n all tried h =
      let below = slice_get_within policy.views h.cover.view h.covers.view h.covers.view_is in
      (tried h.cover.view (omega (arith, below, all))).none h.cover refl h.covers

pub AllZip-push : {A B : Type 0} (R : A → B → Type 0) (xs : List A) (ys : List B) (x : A) (y : B) → AllZip R xs ys → R x y → AllZip R (xs ++ x ∷ []) (ys ++ y ∷ [])
AllZip-push R [] [] x y h r = (r, tt)
AllZip-push R [] (b ∷ ys) x y h r = absurd h
AllZip-push R (a ∷ xs) [] x y h r = absurd h
AllZip-push R (a ∷ xs) (b ∷ ys) x y h r = (h.0, AllZip-push R xs ys x y h.1 r)

pub AllZip-more : {A B : Type 0} (R : A → B → Type 0) (xs : List A) (ys : List B) (i : ℕ) (x : A) (y : B) → i < length xs → x ≡ get_or xs i x → AllZip R (take i xs) ys → R x y → AllZip R (take (i + 1) xs) (ys ++ y ∷ [])
AllZip-more R xs ys i x y below is h r =
    subst (λ zs. AllZip R zs (ys ++ y ∷ [])) (sym (take_more xs i x below ∙ ap (λ z. take i xs ++ z ∷ []) (sym is))) (AllZip-push R (take i xs) ys x y h r)

pub AllZip-length : {A B : Type 0} (R : A → B → Type 0) (xs : List A) (ys : List B) → AllZip R xs ys → length xs ≡ length ys
AllZip-length R [] [] h = refl
AllZip-length R [] (y ∷ ys) h = absurd h
AllZip-length R (x ∷ xs) [] h = absurd h
AllZip-length R (x ∷ xs) (y ∷ ys) h = ap suc (AllZip-length R xs ys h.1)

-- one further in both lists
pub AllZip-further : {A B : Type 0} (R : A → B → Type 0) (xs : List A) (ys : List B) (i : ℕ) (x : A) (y : B) → slice_get xs i ≡ Some x → slice_get ys i ≡ Some y → AllZip R (take i xs) (take i ys) → R x y → AllZip R (take (i + 1) xs) (take (i + 1) ys)
AllZip-further R xs ys i x y e f h r =
    let ends : take i ys ++ y ∷ [] ≡ take (i + 1) ys = ap (λ z. take i ys ++ z ∷ []) (sym (get_or_from_slice_get ys i y y f)) ∙ sym (take_more ys i y (slice_get_within ys i y f)) in
    subst (AllZip R (take (i + 1) xs)) ends
    (AllZip-more R xs (take i ys) i x y (slice_get_within xs i x e) (sym (get_or_from_slice_get xs i x x e)) h r)

pub AllZip-weaker : {A B : Type 0} (R S : A → B → Type 0) → ((x : A) (y : B) → R x y → S x y) → (xs : List A) (ys : List B) → AllZip R xs ys → AllZip S xs ys
AllZip-weaker R S f [] [] h = tt
AllZip-weaker R S f [] (y ∷ ys) h = absurd h
AllZip-weaker R S f (x ∷ xs) [] h = absurd h
AllZip-weaker R S f (x ∷ xs) (y ∷ ys) h = (f x y h.0, AllZip-weaker R S f xs ys h.1)

pub at_not_some : {X : Type 0} (o : Option X) (P : Type 0) (Q : X → Type 0) → ((x : X) → o ≡ Some x → ⊥) → MatchOption o P Q → P
at_not_some None P Q f h = h
at_not_some (Some x) P Q f h = absurd (f x refl)

pub at_some : {X : Type 0} (o : Option X) (x : X) (P : Type 0) (Q : X → Type 0) → o ≡ Some x → MatchOption o P Q → Q x
at_some None x P Q e h = cc
at_some (Some y) x P Q e h = subst Q (let k : y ≡ x = cc in k) h

-- once all parts are covered, the query is
pub all_covered : (policy : Policy) (c : Context) (q : Query) (items : List Part) (covers : List PartCover) (i : ℕ) → items ≡ q.parts → length items ≤ i → AllZip (IsFirst policy c) (take i items) covers → IsFirstCover policy c q (record { parts = covers })
all_covered policy c q items covers i e past h =
    record { parts = subst (λ parts. AllZip (IsFirst policy c) parts covers) (take_all i items past ∙ e) h }

-- a first cover is a cover
pub first_covers : (policy : Policy) (c : Context) (q : Query) (cover : Cover) → IsFirstCover policy c q cover → IsCover policy c q cover
first_covers policy c q cover h =
    record { parts = AllZip-weaker (IsFirst policy c) (CoversPart policy c) (λ part found k. k.covers) q.parts cover.parts h.parts }

-- what has a first cover is always strong
pub first_is_strong : (policy : Policy) (c : Context) (q : Query) (cover : Cover) → IsFirstCover policy c q cover → AlwaysStrong policy c q
first_is_strong policy c q cover h =
    record { after = λ fits context trace. covered_is_strong policy c trace q fits context (cover_covers policy c q cover (first_covers policy c q cover h)) }
