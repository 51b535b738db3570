-- The ties of atoms, one atom after another.
use Rattle.std.proofs.Common.{◌≡◌, ℕ, ◌+◌, ◌<◌, ◌≤◌, inl, inr, List, [], ◌∷◌, ◌++◌, length, get_or, take, sym, subst}
use Rattle.std.proofs.lemmas.List.{take_more, take_all}
use Rattle.std.proofs.lemmas.List.Elements.{Contains-push, Contains-push_cases, Contains-append_left}
use Rattle.std.specs.List.{Contains}
use Rattle.ba_model.proofs.ElementLemmas.{Contains-nil}
use Rattle.ba_model.specs.declared.query.Atom.{Atom}
use Rattle.ba_eval.specs.Index.{AreTies, IsTie}
use Rattle.ba_eval.specs.declared.tie.Tie.{Tie}

pub no_ties : (at : ℕ) → AreTies at [] []
no_ties at = record { sound = λ tie h. absurd (Contains-nil tie h); complete = λ atom tie h is. absurd (Contains-nil atom h) }

module _ (at : ℕ) (atoms : List Atom) (i : ℕ) (atom : Atom) (below : i < length atoms) (here : atom ≡ get_or atoms i atom) (ties : List Tie) (before : AreTies at (take i atoms) ties) where
  one_more : take (i + 1) atoms ≡ take i atoms ++ atom ∷ []
  one_more = subst (λ q. take (i + 1) atoms ≡ take i atoms ++ q ∷ []) (sym here) (take_more atoms i atom below)

  earlier : (x : Atom) → Contains (take i atoms) x → Contains (take (i + 1) atoms) x
  earlier x h = subst (λ ys. Contains ys x) (sym one_more) (Contains-append_left (take i atoms) (atom ∷ []) x h)

  last : Contains (take (i + 1) atoms) atom
  last = subst (λ ys. Contains ys atom) (sym one_more) (Contains-push (take i atoms) atom)

  pub no_tie_more : ((tie : Tie) → IsTie at atom tie → ⊥) → AreTies at (take (i + 1) atoms) ties
  no_tie_more none = record {
    sound = λ tie h. let s = before.sound tie h in (s.0, earlier s.0 s.1, s.2);
    complete = λ x tie h is.
        elim (Contains-push_cases (take i atoms) atom x (subst (λ ys. Contains ys x) one_more h)) [
          | inl old ↦ before.complete x tie old is
          | inr same ↦ absurd (none tie (subst (λ y. IsTie at y tie) (sym same) is))
        ];
  }

  pub tie_more : (tie : Tie) (new : List Tie) → IsTie at atom tie → new ≡ ties ++ tie ∷ [] → AreTies at (take (i + 1) atoms) new
  tie_more own new is e =
      subst (AreTies at (take (i + 1) atoms)) (sym e)
      (record {
        sound = λ tie h.
            elim (Contains-push_cases ties own tie h) [
              | inl old ↦ (let s = before.sound tie old in (s.0, earlier s.0 s.1, s.2))
              | inr same ↦ (atom, last, subst (IsTie at atom) same is)
            ];
        complete = λ x tie h is_x.
            elim (Contains-push_cases (take i atoms) atom x (subst (λ ys. Contains ys x) one_more h)) [
              | inl old ↦ (let s = before.complete x tie old is_x in (s.0, Contains-append_left ties (own ∷ []) s.0 s.1, s.2))
              | inr same ↦ (own, Contains-push ties own, subst (λ y. IsTie at y own) same is)
            ];
      })

pub all_ties : (at : ℕ) (atoms : List Atom) (n : ℕ) (ties : List Tie) → length atoms ≤ n → AreTies at (take n atoms) ties → AreTies at atoms ties
all_ties at atoms n ties all h = subst (λ xs. AreTies at xs ties) (take_all n atoms all) h
