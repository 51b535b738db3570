-- Whether a part can be mapped to facts at all.
use Rattle.std.proofs.Common.{◌≡◌, ◌∙◌, ℕ, zero, suc, ◌+◌, ◌<◌, ◌≤◌, inl, inr, List, [], ◌∷◌, ◌++◌, get_or, length, map, refl, set, sym, ap, subst, arith}
use Rattle.std.proofs.lemmas.List.Elements.{All-append, All-cons, All-contains, All-nil, All-weaker, Contains-append_left, Contains-push, Contains-push_cases}
use Rattle.std.proofs.lemmas.Option.{slice_get-map, slice_get_within}
use Rattle.std.specs.List.{All, AllZip, Contains}
use Rattle.std.specs.Prelude.{Some, None, option_and_then, option_copied, option_map, slice_get}
use Rattle.ba_model.specs.declared.query.Atom.{Atom}
use Rattle.ba_model.specs.declared.query.Operand.{Operand}
use Rattle.ba_model.specs.declared.query.Operand.TheVariants.{Col, Val, Param, Var}
use Rattle.ba_facts.proofs.PlaceLemmas.{pair_fails, upto}
use Rattle.ba_facts.specs.Matches.{AreTheSame, IsFactOf, IsMapping, Under, term_of, terms_at}
use Rattle.ba_facts.specs.Shown.{TheSame}
use Rattle.ba_facts.specs.Walks.{IsWanted}
use Rattle.ba_facts.specs.declared.branch.Branch.{Branch}
use Rattle.ba_facts.specs.declared.term.Term.{Term}
use Rattle.ba_facts.specs.declared.walk.Wanted.{Wanted}
use Rattle.ba_facts.specs.declared.walk.Wanted.TheVariants.{Live, Shown}
use Rattle.ba_instant.proofs.AlikeLemmas.{Likes, like_fact, like_head, like_live, like_shown, like_turned, likes_itself}
use Rattle.ba_instant.specs.Outlooks.{AreApart, AreWithin, FailsWith, GivesOther, HasLike, HasOne, IsDifferent, IsNeedless, IsOut, IsSought, Keeps, KeepsAt, MeetsAt, NeedsOnly, NoneSought, NoneWithin, OffersLike, Stands, term_with}
use Rattle.ba_instant.specs.Spreads.{IsLike}
use Rattle.ba_instant.specs.declared.outlook.Left.{Left}
use Rattle.ba_instant.specs.declared.outlook.Outlook.{Outlook}
use Rattle.ba_instant.specs.declared.outlook.Placed.{Placed}

-- ---- lists, place by place

zip_at : {X Y : Type 0} (R : X → Y → Type 0) (xs : List X) (ys : List Y) (i : ℕ) (x : X) (y : Y) → AllZip R xs ys → slice_get xs i ≡ Some x → slice_get ys i ≡ Some y → R x y
zip_at R [] ys i x y h left right = absurd (let wrong : None ≡ Some x = left in cc)
zip_at R (a ∷ xs) [] i x y h left right = absurd h
zip_at R (a ∷ xs) (b ∷ ys) zero x y h left right =
    let first : a ≡ x = cc in
    let second : b ≡ y = cc in
    subst (λ z. R z y) first (subst (R a) second h.0)
zip_at R (a ∷ xs) (b ∷ ys) (suc i) x y h left right = zip_at R xs ys i x y h.1 left right

zip_there : {X Y : Type 0} (R : X → Y → Type 0) (xs : List X) (ys : List Y) (i : ℕ) (x : X) → AllZip R xs ys → slice_get xs i ≡ Some x → (y : Y) × (slice_get ys i ≡ Some y)
zip_there R [] ys i x h left = absurd (let wrong : None ≡ Some x = left in cc)
zip_there R (a ∷ xs) [] i x h left = absurd h
zip_there R (a ∷ xs) (b ∷ ys) zero x h left = (b, refl)
zip_there R (a ∷ xs) (b ∷ ys) (suc i) x h left = zip_there R xs ys i x h.1 left

-- ---- another fact at a place

get_set : {X : Type 0} (xs : List X) (i : ℕ) (x y : X) → slice_get xs i ≡ Some x → slice_get (set xs i y) i ≡ Some y
get_set [] i x y at = absurd (let wrong : None ≡ Some x = at in cc)
get_set (a ∷ xs) zero x y at = refl
get_set (a ∷ xs) (suc i) x y at = get_set xs i x y at

get_beside : {X : Type 0} (xs : List X) (p i : ℕ) (y : X) → p < i → slice_get (set xs i y) p ≡ slice_get xs p
get_beside [] p i y less = refl
get_beside (a ∷ xs) p zero y less = absurd (omega (arith, less))
get_beside (a ∷ xs) zero (suc i) y less = refl
get_beside (a ∷ xs) (suc p) (suc i) y less = get_beside xs p i y (omega (arith, less))

likes_set : (b : Branch) (facts : List ℕ) (i n m : ℕ) → slice_get facts i ≡ Some n → IsLike b n m → Likes b facts (set facts i m)
likes_set b [] i n m at like = tt
likes_set b (x ∷ facts) zero n m at like =
    let same : n ≡ x = cc (at) in (subst (λ k. IsLike b k m) same like, likes_itself b facts)
likes_set b (x ∷ facts) (suc i) n m at like = (inl refl, likes_set b facts i n m at like)

-- ---- what operands stand for

term_stands : (b : Branch) (facts : List ℕ) (own : Placed) (x : Operand) (t : Term) → NeedsOnly own.place x → Stands facts own → term_with b own.fact x ≡ Some t →
    term_of (map (terms_at b) facts) x ≡ Some t
term_stands b facts own (Col p column) t only there is =
    let row : slice_get (map (terms_at b) facts) p ≡ Some (terms_at b own.fact) =
    slice_get-map (terms_at b) facts p ∙ ap (option_map (terms_at b)) (ap (slice_get facts) only ∙ there) in
    ap (option_and_then (λ row. slice_get row column)) row ∙ is
term_stands b facts own (Val v) t only there is = is
term_stands b facts own (Param n) t only there is = is
term_stands b facts own (Var n) t only there is = is

module _ (it : Outlook) where
  abbrev b : Branch
  b = it.walk.branch.now

  pub missed : (one other : Placed) (atom : Atom) → NeedsOnly one.place atom.left → NeedsOnly other.place atom.right → FailsWith it.walk one.fact other.fact atom →
      AreApart it one other atom
  missed one other atom left right f facts first second u =
      let left_stands = term_stands b facts one atom.left f.left left first f.left_is in
      let right_stands = term_stands b facts other atom.right f.right right second f.right_is in
      let left_same : u.left ≡ f.left = cc (left_stands, u.left_is) in
      let right_same : u.right ≡ f.right = cc (right_stands, u.right_is) in
      f.fails (subst (λ x. IsWanted b.known it.walk.wanted atom.op x f.right) left_same
      (subst (λ y. IsWanted b.known it.walk.wanted atom.op u.left y) right_same u.holds))

  pub different : (own : Placed) (x : Operand) (t other : Term) → NeedsOnly own.place x → term_with b own.fact x ≡ Some t → (TheSame b.known t other → ⊥) →
      IsDifferent it own x other
  different own x t other only is apart facts there h =
      let stands = term_stands b facts own x t only there is in
      let left_same : h.left ≡ t = cc (stands, h.left_is) in
      let right_same : h.right ≡ other = cc (h.right_is) in
      apart (subst (λ x. TheSame b.known x other) left_same (subst (TheSame b.known h.left) right_same h.same))

  pub other_at : (own : Placed) (head : List Operand) (row : List Term) (i : ℕ) (x : Operand) (t : Term) → i < length head → i < length row → x ≡ get_or head i x →
      t ≡ get_or row i t → IsDifferent it own x t → GivesOther it own head row
  other_at own head row i x t left right x_is t_is apart facts there h =
      pair_fails (AreTheSame b.known) (term_of (map (terms_at b) facts)) Some head row i x t left right x_is t_is (apart facts there) h

  -- ---- one fact by itself

  pub out_unmet : (own : Placed) (atom : Atom) → Contains it.walk.part.now.conds atom → AreApart it own own atom → IsOut it own
  out_unmet own atom among apart facts sought there =
      apart facts there there
      (All-contains (Under (IsWanted b.known it.walk.wanted) (map (terms_at b) facts)) it.walk.part.now.conds atom (sought.completes).meets among)

  -- what is looked for has a fact of the table at each place
  mapping : (facts : List ℕ) → IsSought it facts → IsMapping b it.walk.side it.walk.part.now.from facts
  mapping facts sought = subst (IsMapping b it.walk.side it.walk.part.now.from) (sym (sought.completes).facts_are) (sought.completes).facts_of

  pub out_none : (own : Placed) (table : ℕ) → slice_get it.walk.part.now.from own.place ≡ Some table → (IsFactOf b it.walk.side table own.fact → ⊥) → IsOut it own
  out_none own table at none facts sought there =
      none (zip_at (IsFactOf b it.walk.side) it.walk.part.now.from facts own.place table own.fact (mapping facts sought) at there)

  -- ---- the facts for a place

  abbrev pub OffersBelow : ℕ → List ℕ → ℕ → Type 0
  OffersBelow place numbers end = (facts : List ℕ) (n : ℕ) → IsSought it facts → slice_get facts place ≡ Some n → n < end → HasLike b n numbers

  has_more : (numbers : List ℕ) (last n : ℕ) → HasLike b n numbers → HasLike b n (numbers ++ last ∷ [])
  has_more numbers last n h = record { other = h.other; among = Contains-append_left numbers (last ∷ []) h.other h.among; like = h.like }

  pub offers_none : (place : ℕ) (numbers : List ℕ) → OffersBelow place numbers 0
  offers_none place numbers facts n sought there below = absurd (omega (arith, below))

  pub offers_push : (place : ℕ) (numbers more : List ℕ) (end : ℕ) → more ≡ numbers ++ end ∷ [] → OffersBelow place numbers end → OffersBelow place more (end + 1)
  offers_push place numbers more end is before facts n sought there below =
      subst (HasLike b n) (sym is)
      (elim (upto n end below) [
        | inl less ↦ has_more numbers end n (before facts n sought there less)
        | inr same ↦ record { other = end; among = Contains-push numbers end; like = inl same }
      ])

  -- the fact can't stand at the place, or is alike to one of these
  needless : (place : ℕ) (numbers : List ℕ) (own : Placed) → own.place ≡ place → IsNeedless it own numbers → (facts : List ℕ) → IsSought it facts →
      slice_get facts place ≡ Some own.fact → HasLike b own.fact numbers
  needless place numbers own same (inl out) facts sought there = absurd (out facts sought (subst (λ p. slice_get facts p ≡ Some own.fact) (sym same) there))
  needless place numbers own same (inr (k, other, inside, at, alike)) facts sought there =
      record { other = other; among = (k, inside, at); like = like_turned b other own.fact (inr alike) }

  pub offers_skip : (place : ℕ) (numbers more : List ℕ) (end : ℕ) → more ≡ numbers → IsNeedless it (record { place = place; fact = end }) numbers →
      OffersBelow place numbers end → OffersBelow place more (end + 1)
  offers_skip place numbers more end is out before facts n sought there below =
      subst (HasLike b n) (sym is)
      (elim (upto n end below) [
        | inl less ↦ before facts n sought there less
        | inr same ↦
            subst (λ m. HasLike b m numbers) (sym same)
            (needless place numbers (record { place = place; fact = end }) refl out facts sought (subst (λ m. slice_get facts place ≡ Some m) same there))
      ])

  pub offers_all : (place table : ℕ) (numbers : List ℕ) (end : ℕ) → slice_get it.walk.part.now.from place ≡ Some table → length it.walk.branch.now.facts ≤ end →
      OffersBelow place numbers end → OffersLike it place numbers
  offers_all place table numbers end at past below facts sought =
      let own = zip_there (IsFactOf b it.walk.side) it.walk.part.now.from facts place table (mapping facts sought) at in
      let fact = zip_at (IsFactOf b it.walk.side) it.walk.part.now.from facts place table own.0 (mapping facts sought) at own.1 in
      let inside : own.0 < length it.walk.branch.now.facts = slice_get_within it.walk.branch.now.facts own.0 fact.fact fact.there in
      record { fact = own.0; there = own.1; has = below facts own.0 sought own.1 (omega (arith, inside, past)) }

  -- ---- the places

  -- facts that are like those are looked for too
  like_mapping : (from facts others : List ℕ) → Likes b facts others → IsMapping b it.walk.side from facts → IsMapping b it.walk.side from others
  like_mapping [] [] [] like h = tt
  like_mapping [] [] (y ∷ others) like h = like
  like_mapping [] (x ∷ facts) others like h = absurd h
  like_mapping (t ∷ from) [] others like h = absurd h
  like_mapping (t ∷ from) (x ∷ facts) [] like h = absurd like
  like_mapping (t ∷ from) (x ∷ facts) (y ∷ others) like h = (like_fact b it.walk.side t x y like.0 h.0, like_mapping from facts others like.1 h.1)

  like_met : (wanted : Wanted) (facts others : List ℕ) → Likes b facts others → (conds : List Atom) → All (Under (IsWanted b.known wanted) (map (terms_at b) facts)) conds →
      All (Under (IsWanted b.known wanted) (map (terms_at b) others)) conds
  like_met Live facts others like conds h = like_live b facts others like conds h
  like_met Shown facts others like conds h = like_shown b facts others like conds h

  like_sought : (facts others : List ℕ) → Likes b facts others → IsSought it facts → IsSought it others
  like_sought facts others like sought = record {
    completes = record {
      rest = others;
      facts_are = refl;
      facts_of = like_mapping it.walk.part.now.from facts others like (mapping facts sought);
      meets = like_met it.walk.wanted facts others like it.walk.part.now.conds (sought.completes).meets;
    };
    head = like_head b facts others like it.walk.part.now (option_copied it.row) sought.head;
  }

  -- the places so far come before this one, and if nothing has one of the facts that are left at each of these, nothing is looked for
  pub record LeadsBelow (places : List Left) (end : ℕ) : Type 0 where
    pub below : All (λ left. left.place < end) places
    pub leads : NoneWithin it places → NoneSought it

  pub leads_none : (places : List Left) → places ≡ [] → LeadsBelow places 0
  leads_none places is = record {
    below = subst (All (λ left. left.place < 0)) (sym is) (All-nil (λ left. left.place < 0));
    leads = λ none facts sought. none facts sought (subst (AreWithin facts) (sym is) (All-nil (λ left. HasOne facts left.place left.facts.items)));
  }

  -- another fact at a later place
  within_set : (facts : List ℕ) (places : List Left) (end other : ℕ) → All (λ left. left.place < end) places → AreWithin facts places → AreWithin (set facts end other) places
  within_set facts places end other below within k d inside =
      let one = within k d inside in
      let less = below k d inside in
      record { fact = one.fact; there = get_beside facts (get_or places k d).place end other less ∙ one.there; among = one.among }

  pub leads_push : (places more : List Left) (left : Left) → more ≡ places ++ left ∷ [] → OffersLike it left.place left.facts.items → LeadsBelow places left.place →
      LeadsBelow more (left.place + 1)
  leads_push places more left is offers before = record {
    below = subst (All (λ it. it.place < left.place + 1)) (sym is)
        (All-append (λ it. it.place < left.place + 1) places (left ∷ [])
        (All-weaker (λ it. it.place < left.place) (λ it. it.place < left.place + 1) (λ it less. omega (arith, less)) places before.below)
        (All-cons (λ it. it.place < left.place + 1) left [] (omega arith) (All-nil (λ it. it.place < left.place + 1))));
    leads = λ none. before.leads (λ facts sought within.
        let own = offers facts sought in
        let turned = set facts left.place own.has.other in
        none turned (like_sought facts turned (likes_set b facts left.place own.fact own.has.other own.there own.has.like) sought)
        (subst (AreWithin turned) (sym is)
        (All-append (λ it. HasOne turned it.place it.facts.items) places (left ∷ [])
        (within_set facts places left.place own.has.other before.below within)
        (All-cons (λ it. HasOne turned it.place it.facts.items) left []
        (record { fact = own.has.other; there = get_set facts left.place own.fact own.has.other own.there; among = own.has.among })
        (All-nil (λ it. HasOne turned it.place it.facts.items))))));
  }

  -- ---- the facts that agree with a chosen one

  pub meets_none : (atom : Atom) (chosen : Placed) (place : ℕ) (new : List ℕ) → MeetsAt it atom chosen place [] new
  meets_none atom chosen place new facts there holds one = let below = (one.among).1 in absurd (omega (arith, below))

  pub meets_push : (atom : Atom) (chosen : Placed) (place : ℕ) (old new older newer : List ℕ) (n : ℕ) → older ≡ old ++ n ∷ [] → newer ≡ new ++ n ∷ [] →
      MeetsAt it atom chosen place old new → MeetsAt it atom chosen place older newer
  meets_push atom chosen place old new older newer n old_is new_is before facts there holds one =
      subst (HasOne facts place) (sym new_is)
      (elim (Contains-push_cases old n one.fact (subst (λ xs. Contains xs one.fact) old_is one.among)) [
        | inl had ↦
            let has = before facts there holds (record { fact = one.fact; there = one.there; among = had }) in
            record { fact = has.fact; there = has.there; among = Contains-append_left new (n ∷ []) has.fact has.among }
        | inr same ↦ record { fact = n; there = one.there ∙ ap Some (sym same); among = Contains-push new n }
      ])

  pub meets_skip : (atom : Atom) (chosen : Placed) (place : ℕ) (old new older newer : List ℕ) (n : ℕ) → older ≡ old ++ n ∷ [] → newer ≡ new →
      AreApart it chosen (record { place = place; fact = n }) atom → MeetsAt it atom chosen place old new → MeetsAt it atom chosen place older newer
  meets_skip atom chosen place old new older newer n old_is new_is apart before facts there holds one =
      subst (HasOne facts place) (sym new_is)
      (elim (Contains-push_cases old n one.fact (subst (λ xs. Contains xs one.fact) old_is one.among)) [
        | inl had ↦ before facts there holds (record { fact = one.fact; there = one.there; among = had })
        | inr same ↦ absurd (apart facts there (one.there ∙ ap Some (sym same)) holds)
      ])

  pub apart_turned : (one other : Placed) (atom : Atom) → AreApart it other one atom → AreApart it one other atom
  apart_turned one other atom apart facts first second holds = apart facts second first holds

  pub keeps_met : (atom : Atom) (chosen : Placed) (place : ℕ) (first old new : List ℕ) → Contains it.walk.part.now.conds atom → MeetsAt it atom chosen place old new →
      KeepsAt it chosen place first old → KeepsAt it chosen place first new
  keeps_met atom chosen place first old new among meets before facts sought there one =
      meets facts there
      (All-contains (Under (IsWanted b.known it.walk.wanted) (map (terms_at b) facts)) it.walk.part.now.conds atom (sought.completes).meets among)
      (before facts sought there one)

  pub keeps_same : (chosen : Placed) (place : ℕ) (old new : List ℕ) → new ≡ old → KeepsAt it chosen place old new
  keeps_same chosen place old new same facts sought there one = subst (HasOne facts place) (sym same) one

  -- ---- the other places

  pub others_none : (chosen : Placed) (places : List Left) → Keeps it chosen places []
  others_none chosen places facts sought there within = All-nil (λ left. HasOne facts left.place left.facts.items)

  pub others_push : (chosen : Placed) (places others more : List Left) (old new : Left) → more ≡ others ++ new ∷ [] → Contains places old → new.place ≡ old.place →
      KeepsAt it chosen old.place old.facts.items new.facts.items → Keeps it chosen places others → Keeps it chosen places more
  others_push chosen places others more old new is among same keeps before facts sought there within =
      subst (AreWithin facts) (sym is)
      (All-append (λ left. HasOne facts left.place left.facts.items) others (new ∷ []) (before facts sought there within)
      (All-cons (λ left. HasOne facts left.place left.facts.items) new []
      (subst (λ place. HasOne facts place new.facts.items) (sym same)
      (keeps facts sought there (All-contains (λ left. HasOne facts left.place left.facts.items) places old within among)))
      (All-nil (λ left. HasOne facts left.place left.facts.items))))

  -- ---- the search

  -- nothing that is looked for has this fact, and one of those that are left at each place
  abbrev pub NeverFrom : List Left → ℕ → ℕ → Type 0
  NeverFrom places place fact = (facts : List ℕ) → IsSought it facts → AreWithin facts places → slice_get facts place ≡ Some fact → ⊥

  pub never_from : (places others : List Left) (place fact : ℕ) → Keeps it (record { place = place; fact = fact }) places others → NoneWithin it others →
      NeverFrom places place fact
  never_from places others place fact keeps none facts sought within there = none facts sought (keeps facts sought there within)

  pub dead_all : (places : List Left) (next : Left) → Contains places next → All (NeverFrom places next.place) next.facts.items → NoneWithin it places
  dead_all places next among never facts sought within =
      let one = All-contains (λ left. HasOne facts left.place left.facts.items) places next within among in
      All-contains (NeverFrom places next.place) next.facts.items one.fact never one.among facts sought within one.there
