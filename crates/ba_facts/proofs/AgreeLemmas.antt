-- Facts that two places are equal.
use Rattle.std.proofs.Common.{◌≡◌, ℤ, pos, ◌++◌, ◌⊎◌, inl, inr, List, [], ◌∷◌, Contains, sym, ap, ◌∙◌, subst}
use Rattle.std.proofs.lemmas.List.Elements.{Contains-append_left, Contains-push, Contains-push_cases}
use Rattle.ba_classes.specs.declared.order.Difference.{Difference}
use Rattle.ba_classes.proofs.ChainLemmas.{Shows-fact}
use Rattle.ba_facts.specs.Rises.{Agrees, rise_fact}
use Rattle.ba_facts.specs.Webs.{RisesBy}
use Rattle.ba_facts.specs.declared.marks.Place.{Place}

pub fact_rises : (facts : List Difference) (p q : Place) (g : ℤ) → Contains facts (rise_fact p g q) → RisesBy facts p g q
fact_rises facts p q g h = record { shown = Shows-fact (rise_fact p g q) h }

pub made_agree : (old copy one two : List Difference) (p q : Place) → copy ≡ old → one ≡ copy ++ rise_fact p (pos 0) q ∷ [] → two ≡ one ++ rise_fact q (pos 0) p ∷ [] → Agrees old two p q
made_agree old copy one two p q same first second =
    let up = rise_fact p (pos 0) q in
    let down = rise_fact q (pos 0) p in
    subst (λ (fs : List Difference). Agrees old fs p q) (sym (second ∙ ap (λ (fs : List Difference). fs ++ down ∷ []) (first ∙ ap (λ (fs : List Difference). fs ++ up ∷ []) same)))
    (record {
      kept = λ f h. Contains-append_left (old ++ up ∷ []) _ f (Contains-append_left old _ f h);
      only = λ f h. elim (Contains-push_cases (old ++ up ∷ []) down f h) as (λ _. Contains old f ⊎ ((f ≡ up) ⊎ (f ≡ down))) [
        | inl x ↦ elim (Contains-push_cases old up f x) as (λ _. Contains old f ⊎ ((f ≡ up) ⊎ (f ≡ down))) [ inl y ↦ inl y | inr y ↦ inr (inl (sym y)) ]
        | inr x ↦ inr (inr (sym x))
      ];
      equal = record {
        up = fact_rises _ p q (pos 0) (Contains-append_left (old ++ up ∷ []) _ up (Contains-push old up));
        down = fact_rises _ q p (pos 0) (Contains-push (old ++ up ∷ []) down);
      };
    })
