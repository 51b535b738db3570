-- Facts that are alike fit the same mappings.
use Rattle.std.proofs.Common.{◌≡◌, ◌∙◌, ℕ, zero, suc, ◌+◌, ◌<◌, ◌≤◌, ◌⊎◌, inl, inr, List, [], ◌∷◌, ◌++◌, length, map, refl, sym, ap, subst, arith}
use Rattle.std.proofs.lemmas.Bool.{cases_lt}
use Rattle.std.proofs.lemmas.List.Elements.{All-append, All-cons, All-nil, All-weaker, Contains-append_left, Contains-push}
use Rattle.std.proofs.lemmas.Option.{slice_get_within}
use Rattle.std.specs.List.{All, AllZip, Contains}
use Rattle.std.specs.Prelude.{◌≢◌, Option, Some, None, option_and_then, option_map, slice_get, unwrap_or}
use Rattle.ba_model.specs.declared.query.Atom.{Atom}
use Rattle.ba_model.specs.declared.query.Op.{Op}
use Rattle.ba_model.specs.declared.query.Operand.{Operand}
use Rattle.ba_model.specs.declared.query.Operand.TheVariants.{Col, Val, Param, Var}
use Rattle.ba_model.specs.declared.query.Part.{Part}
use Rattle.ba_facts.proofs.PlaceLemmas.{upto}
use Rattle.ba_facts.specs.Known.{Known, OneClass}
use Rattle.ba_facts.specs.Matches.{AreTheSame, HeadIs, IsFactOf, IsLive, IsLiveOf, IsShown, Under, row_of, term_of, terms_at}
use Rattle.ba_facts.specs.Shown.{ShowsOf}
use Rattle.ba_facts.specs.declared.branch.Branch.{Branch}
use Rattle.ba_facts.specs.declared.term.Fact.{Fact}
use Rattle.ba_facts.specs.declared.term.Side.{Side}
use Rattle.ba_facts.specs.declared.term.Term.{Term}
use Rattle.ba_facts.proofs.ClassMoves.{live_moves, refuted_moves, same_moves, shown_moves}
use Rattle.ba_facts.specs.Alike.{AreAlike}
use Rattle.ba_instant.specs.Spreads.{AreChoices, AreLikes, AreLikesBelow, IsAt, IsLike, IsOpenOf, NamesPlace}

-- ---- rows of terms of the same classes

module _ (k : Known) where
  abbrev pub OneRow : List Term → List Term → Type 0
  OneRow = AllZip (OneClass k)

  pub row_itself : (xs : List Term) → OneRow xs xs
  row_itself [] = tt
  row_itself (x ∷ xs) = (OneClass.itself, row_itself xs)

  pub row_turned : (xs ys : List Term) → OneRow xs ys → OneRow ys xs
  row_turned [] [] h = tt
  row_turned [] (y ∷ ys) h = h
  row_turned (x ∷ xs) [] h = h
  row_turned (x ∷ xs) (y ∷ ys) h = (OneClass.turned h.0, row_turned xs ys h.1)

  pub row_joined : (xs ys zs : List Term) → OneRow xs ys → OneRow ys zs → OneRow xs zs
  row_joined [] [] [] h k = tt
  row_joined [] [] (z ∷ zs) h k = k
  row_joined [] (y ∷ ys) zs h k = absurd h
  row_joined (x ∷ xs) [] zs h k = absurd h
  row_joined (x ∷ xs) (y ∷ ys) [] h k = absurd k
  row_joined (x ∷ xs) (y ∷ ys) (z ∷ zs) h k = (OneClass.joined h.0 k.0, row_joined xs ys zs h.1 k.1)

  row_column : (xs ys : List Term) (i : ℕ) (t : Term) → OneRow xs ys → slice_get xs i ≡ Some t → (u : Term) × (slice_get ys i ≡ Some u) × OneClass k t u
  row_column [] ys i t h e = absurd (let wrong : None ≡ Some t = e in cc)
  row_column (x ∷ xs) [] i t h e = absurd h
  row_column (x ∷ xs) (y ∷ ys) zero t h e =
      let same : x ≡ t = cc in (y, refl, subst (λ z. OneClass k z y) same h.0)
  row_column (x ∷ xs) (y ∷ ys) (suc i) t h e = row_column xs ys i t h.1 e

-- ---- facts that are like one another

module _ (b : Branch) where
  terms_are : (n : ℕ) (f : Fact) → slice_get b.facts n ≡ Some f → terms_at b n ≡ f.terms
  terms_are n f there = ap (λ o. unwrap_or (option_map (λ it. it.terms) o) []) there

  pub like_terms : (n m : ℕ) → IsLike b n m → OneRow b.known (terms_at b n) (terms_at b m)
  like_terms n m (inl same) = subst (λ i. OneRow b.known (terms_at b n) (terms_at b i)) same (row_itself b.known (terms_at b n))
  like_terms n m (inr h) =
      subst (λ row. OneRow b.known row (terms_at b m)) (sym (terms_are n h.f h.left_is))
      (subst (OneRow b.known h.f.terms) (sym (terms_are m h.g h.right_is)) h.terms)

  pub like_turned : (n m : ℕ) → IsLike b n m → IsLike b m n
  like_turned n m (inl same) = inl (sym same)
  like_turned n m (inr h) =
      inr (record { f = h.g; g = h.f; left_is = h.right_is; right_is = h.left_is; side = sym h.side; table = sym h.table; terms = row_turned b.known h.f.terms h.g.terms h.terms })

  pub like_joined : (n m i : ℕ) → IsLike b n m → IsLike b m i → IsLike b n i
  like_joined n m i (inl same) k = subst (λ x. IsLike b x i) (sym same) k
  like_joined n m i (inr h) (inl same) = inr (subst (AreAlike b n) same h)
  like_joined n m i (inr h) (inr k) =
      let one : h.g ≡ k.f = same_fact h.g k.f (sym h.right_is ∙ k.left_is) in
      inr (record {
        f = h.f;
        g = k.g;
        left_is = h.left_is;
        right_is = k.right_is;
        side = h.side ∙ (ap (λ f. f.side) one ∙ k.side);
        table = h.table ∙ (ap (λ f. f.table) one ∙ k.table);
        terms = row_joined b.known h.f.terms h.g.terms k.g.terms h.terms (subst (λ f. OneRow b.known f.terms k.g.terms) (sym one) k.terms);
      })
    where
      same_fact : (f g : Fact) → Some f ≡ Some g → f ≡ g
      same_fact f g e = cc

  pub like_fact : (side : Side) (table n m : ℕ) → IsLike b n m → IsFactOf b side table n → IsFactOf b side table m
  like_fact side table n m (inl same) h = subst (IsFactOf b side table) same h
  like_fact side table n m (inr a) h =
      let one : a.f ≡ h.fact = inside a.f h.fact (sym a.left_is ∙ h.there) in
      record { fact = a.g; there = a.right_is; side_is = sym a.side ∙ (ap (λ f. f.side) one ∙ h.side_is); table_is = sym a.table ∙ (ap (λ f. f.table) one ∙ h.table_is) }
    where
      inside : (f g : Fact) → Some f ≡ Some g → f ≡ g
      inside f g e = cc

  -- ---- lists of them

  abbrev pub Likes : List ℕ → List ℕ → Type 0
  Likes = AllZip (IsLike b)

  pub likes_itself : (xs : List ℕ) → Likes xs xs
  likes_itself [] = tt
  likes_itself (x ∷ xs) = (inl refl, likes_itself xs)

  pub likes_turned : (xs ys : List ℕ) → Likes xs ys → Likes ys xs
  likes_turned [] [] h = tt
  likes_turned [] (y ∷ ys) h = h
  likes_turned (x ∷ xs) [] h = h
  likes_turned (x ∷ xs) (y ∷ ys) h = (like_turned x y h.0, likes_turned xs ys h.1)

  pub likes_append : (xs ys us vs : List ℕ) → Likes xs ys → Likes us vs → Likes (xs ++ us) (ys ++ vs)
  likes_append [] [] us vs h k = k
  likes_append [] (y ∷ ys) us vs h k = absurd h
  likes_append (x ∷ xs) [] us vs h k = absurd h
  likes_append (x ∷ xs) (y ∷ ys) us vs h k = (h.0, likes_append xs ys us vs h.1 k)

  -- the last of them apart
  pub likes_last : (xs ys : List ℕ) (x : ℕ) → Likes (xs ++ x ∷ []) ys → (front : List ℕ) × (y : ℕ) × (ys ≡ front ++ y ∷ []) × Likes xs front × IsLike b x y
  likes_last [] [] x h = absurd h
  likes_last [] (y ∷ []) x h = ([], y, refl, tt, h.0)
  likes_last [] (y ∷ (z ∷ ys)) x h = absurd h.1
  likes_last (w ∷ xs) [] x h = absurd h
  likes_last (w ∷ xs) (y ∷ ys) x h =
      let it = likes_last xs ys x h.1 in
      (y ∷ it.0, it.1, ap (λ zs. y ∷ zs) it.2, (h.0, it.3), it.4)

  -- ---- what operands stand for

  like_column : (xs ys : List ℕ) (place column : ℕ) (t : Term) → Likes xs ys → term_of (map (terms_at b) xs) (Col place column) ≡ Some t →
      (u : Term) × (term_of (map (terms_at b) ys) (Col place column) ≡ Some u) × OneClass b.known t u
  like_column [] ys place column t h e = absurd (let wrong : None ≡ Some t = e in cc)
  like_column (x ∷ xs) [] place column t h e = absurd h
  like_column (x ∷ xs) (y ∷ ys) zero column t h e = row_column b.known (terms_at b x) (terms_at b y) column t (like_terms x y h.0) e
  like_column (x ∷ xs) (y ∷ ys) (suc place) column t h e = like_column xs ys place column t h.1 e

  pub like_term : (xs ys : List ℕ) (x : Operand) (t : Term) → Likes xs ys → term_of (map (terms_at b) xs) x ≡ Some t →
      (u : Term) × (term_of (map (terms_at b) ys) x ≡ Some u) × OneClass b.known t u
  like_term xs ys (Col place column) t h e = like_column xs ys place column t h e
  like_term xs ys (Val v) t h e = (t, e, OneClass.itself)
  like_term xs ys (Param n) t h e = (t, e, OneClass.itself)
  like_term xs ys (Var n) t h e = (t, e, OneClass.itself)

  module _ (xs ys : List ℕ) (h : Likes xs ys) where
    pub like_under : (P : Op → Term → Term → Type 0) → ((op : Op) (s t x y : Term) → OneClass b.known s x → OneClass b.known t y → P op s t → P op x y) → (cond : Atom) →
        Under P (map (terms_at b) xs) cond → Under P (map (terms_at b) ys) cond
    like_under P moves cond u =
        let left = like_term xs ys cond.left u.left h u.left_is in
        let right = like_term xs ys cond.right u.right h u.right_is in
        record { left = left.0; right = right.0; left_is = left.1; right_is = right.1; holds = moves cond.op u.left u.right left.0 right.0 left.2 right.2 u.holds }

    pub like_live : (conds : List Atom) → All (IsLive b.known (map (terms_at b) xs)) conds → All (IsLive b.known (map (terms_at b) ys)) conds
    like_live conds all =
        All-weaker (IsLive b.known (map (terms_at b) xs)) (IsLive b.known (map (terms_at b) ys)) (λ cond live. like_under (IsLiveOf b.known) (live_moves b.known) cond live) conds all

    pub like_shown : (conds : List Atom) → All (IsShown b.known (map (terms_at b) xs)) conds → All (IsShown b.known (map (terms_at b) ys)) conds
    like_shown conds all =
        All-weaker (IsShown b.known (map (terms_at b) xs)) (IsShown b.known (map (terms_at b) ys)) (λ cond shown. like_under (ShowsOf b.known) (shown_moves b.known) cond shown) conds all

    open_moves : (op : Op) (s t x y : Term) → OneClass b.known s x → OneClass b.known t y → IsOpenOf b.known op s t → IsOpenOf b.known op x y
    open_moves op s t x y at to o = record {
      op_is = o.op_is;
      not_shown = λ shown. o.not_shown (shown_moves b.known op x y s t (OneClass.turned at) (OneClass.turned to) shown);
      not_refuted = λ refuted. o.not_refuted (refuted_moves b.known op x y s t (OneClass.turned at) (OneClass.turned to) refuted);
    }

    pub like_open : (cond : Atom) → Under (IsOpenOf b.known) (map (terms_at b) xs) cond → Under (IsOpenOf b.known) (map (terms_at b) ys) cond
    like_open cond u = like_under (IsOpenOf b.known) open_moves cond u

    like_same : (x : Operand) (t : Option Term) → AreTheSame b.known (term_of (map (terms_at b) xs) x) t → AreTheSame b.known (term_of (map (terms_at b) ys) x) t
    like_same x t same =
        let own = like_term xs ys x same.left h same.left_is in
        record {
          left = own.0;
          right = same.right;
          left_is = own.1;
          right_is = same.right_is;
          same = same_moves b.known same.left same.right own.0 same.right own.2 OneClass.itself same.same;
        }

    like_row : (head : List Operand) (row : List (Option Term)) → AllZip (AreTheSame b.known) (row_of b xs head) row → AllZip (AreTheSame b.known) (row_of b ys head) row
    like_row [] [] all = tt
    like_row [] (t ∷ row) all = all
    like_row (x ∷ head) [] all = all
    like_row (x ∷ head) (t ∷ row) all = (like_same x t all.0, like_row head row all.1)

    pub like_head : (part : Part) (row : Option (List Term)) → HeadIs b part xs row → HeadIs b part ys row
    like_head part None head = tt
    like_head part (Some row) head = like_row part.head (map Some row) head

-- ---- another fact at a place that isn't named

get_beside : {X : Type 0} (xs ys : List X) (x z : X) (p : ℕ) → (p ≡ length xs → ⊥) → slice_get (xs ++ x ∷ ys) p ≡ slice_get (xs ++ z ∷ ys) p
get_beside [] ys x z zero apart = absurd (apart refl)
get_beside [] ys x z (suc p) apart = refl
get_beside (w ∷ xs) ys x z zero apart = refl
get_beside (w ∷ xs) ys x z (suc p) apart = get_beside xs ys x z p (λ e. apart (ap suc e))

pub term_beside : (xs ys : List (List Term)) (x z : List Term) (operand : Operand) → (IsAt (length xs) operand → ⊥) → term_of (xs ++ x ∷ ys) operand ≡ term_of (xs ++ z ∷ ys) operand
term_beside xs ys x z (Col p column) apart = ap (option_and_then (λ row. slice_get row column)) (get_beside xs ys x z p apart)
term_beside xs ys x z (Val v) apart = refl
term_beside xs ys x z (Param n) apart = refl
term_beside xs ys x z (Var n) apart = refl

-- ---- lists of facts that are alike

module _ (b : Branch) where
  module _ (fact : ℕ) where
    pub likes_push : (likes : List ℕ) (other : ℕ) → AreAlike b fact other → AreLikesBelow b fact likes other → AreLikesBelow b fact (likes ++ other ∷ []) (other + 1)
    likes_push likes other alike h = record {
      sound = All-append (IsLike b fact) likes (other ∷ []) h.sound (All-cons (IsLike b fact) other [] (inr alike) (All-nil (IsLike b fact)));
      itself = Contains-append_left likes (other ∷ []) fact h.itself;
      others = λ n below is. elim (upto n other below) [
        | inl less ↦ Contains-append_left likes (other ∷ []) n (h.others n less is)
        | inr same ↦ subst (Contains (likes ++ other ∷ [])) (sym same) (Contains-push likes other)
      ];
    }

    pub likes_more : (likes : List ℕ) (other : ℕ) → ((fact ≢ other) × AreAlike b fact other → ⊥) → AreLikesBelow b fact likes other → AreLikesBelow b fact likes (other + 1)
    likes_more likes other apart h = record {
      sound = h.sound;
      itself = h.itself;
      others = λ n below is. elim (upto n other below) [
        | inl less ↦ h.others n less is
        | inr same ↦ elim (same_or fact other) [
          | inl one ↦ subst (Contains likes) (one ∙ sym same) h.itself
          | inr two ↦ absurd (apart (two, subst (AreAlike b fact) same is))
        ]
      ];
    }
      where
        same_or : (x y : ℕ) → (x ≡ y) ⊎ (x ≢ y)
        same_or x y = elim (cases_lt x y) [
          | inl less ↦ inr (λ e. omega (arith, less, e))
          | inr most ↦ elim (cases_lt y x) [ inl more ↦ inr (λ e. omega (arith, more, e)) | inr least ↦ inl (omega (arith, most, least)) ]
        ]

    pub likes_all : (likes : List ℕ) (end : ℕ) → length b.facts ≤ end → AreLikesBelow b fact likes end → AreLikes b fact likes
    likes_all likes end past h = record {
      sound = h.sound;
      complete = λ n like. elim like [
        | inl same ↦ subst (Contains likes) same h.itself
        | inr alike ↦
            let below : n < length b.facts = slice_get_within b.facts n alike.g alike.right_is in
            h.others n (omega (arith, below, past)) alike
      ];
    }

-- ---- the choices for a place

pub choices_named : (b : Branch) (cond : Atom) (place fact : ℕ) (likes : List ℕ) → AreLikes b fact likes → AreChoices b cond place fact likes
choices_named b cond place fact likes h = record {
  sound = h.sound;
  complete = λ n like. let in_ = h.complete n like in (in_.0, n, in_.1, in_.2, inl refl);
}

pub choices_alone : (b : Branch) (cond : Atom) (place fact : ℕ) (alone : List ℕ) → alone ≡ fact ∷ [] → (NamesPlace place cond → ⊥) → AreChoices b cond place fact alone
choices_alone b cond place fact alone is apart = subst (AreChoices b cond place fact) (sym is) one
  where
    one : AreChoices b cond place fact (fact ∷ [])
    one = record {
      sound = All-cons (IsLike b fact) fact [] (inl refl) (All-nil (IsLike b fact));
      complete = λ n like. let in_ = Contains-push [] fact in (in_.0, fact, in_.1, in_.2, inr apart);
    }
