-- What a plan comes to where the contents are told.
use Rattle.std.proofs.Common.{◌≡◌, ◌⊎◌, ◌≤◌, ◌<◌, ◌++◌, ◌∷◌, [], ◌∙◌, inl, inr, refl, sym, ap, ap₂, subst, ℕ, suc, List, length, take, Option, Some, None, Result, Ok, Err, arith, append_assoc, append-nil, IsSomeAnd, true, false, nat_lt}
use Rattle.std.proofs.lemmas.Bool.Decides.{nat_tests}
use Rattle.ba_outside.specs.Files.{Tells, PassesLimit}
use Rattle.ba_outside.specs.Seen.{Contents, FilesSeen}
use Rattle.ba_plan.specs.declared.stop.Stop.{Stop}
use Rattle.ba_plan.specs.declared.stop.Stop.TheVariants.{Refused, Read, TooLong, NoMemory}
use Rattle.ba_plan.specs.Plan.{Plan, done, refuse, ask, comes_of, outcome_of, names_of}
use Rattle.ba_plan.specs.Follows.{Missed, Gives, Follows}
use Rattle.ba_plan.specs.Ends.{AsksFront, Settles}

-- one name and then those after it
front_then : (old mid new : List (List ℕ)) (name : List ℕ) (names : List (List ℕ)) → mid ≡ old ++ name ∷ [] → AsksFront mid new names → AsksFront old new (name ∷ names)
front_then old mid new name names e (n, h) = (suc n, h ∙ ap (λ z. z ++ take n names) e ∙ append_assoc old (name ∷ []) (take n names))

front_none : (old new : List (List ℕ)) (names : List (List ℕ)) → new ≡ old → AsksFront old new names
front_none old new names e = (0, e ∙ sym (append-nil old))

front_one : (old new : List (List ℕ)) (name : List ℕ) (names : List (List ℕ)) → new ≡ old ++ name ∷ [] → AsksFront old new (name ∷ names)
front_one old new name names e = (1, e)

missed_asked : {E : Type 0} (name : List ℕ) (limit : ℕ) (s t : FilesSeen) (e : Stop E) → Missed name limit s t e → (t.asked ≡ s.asked) ⊎ (t.asked ≡ s.asked ++ name ∷ [])
missed_asked name limit s t (Read file) (e, asked, rose) = inr asked.asked
missed_asked name limit s t (TooLong file n) (e, e', asked, passes, calm) = inr asked.asked
missed_asked name limit s t (Refused e) missed = absurd missed
missed_asked name limit s t NoMemory (moved, asked) = asked

front_missed : (old new : List (List ℕ)) (name : List ℕ) (names : List (List ℕ)) → (new ≡ old) ⊎ (new ≡ old ++ name ∷ []) → AsksFront old new (name ∷ names)
front_missed old new name names (inl e) = front_none old new (name ∷ names) e
front_missed old new name names (inr e) = front_one old new name names e

-- a file within the limit is read
comes_ok : {Y : Type 0} (o : Option (List ℕ)) (limit : ℕ) (missing long : Y) (next : List ℕ → Y) (bytes : List ℕ) → o ≡ Some bytes → length bytes ≤ limit → comes_of o limit missing long next ≡ next bytes
comes_ok o limit missing long next bytes e within =
    let test : nat_lt limit (length bytes) ≡ false = grind (arith, nat_tests) in
    rw (e, test) refl

-- one above the limit isn't
comes_long : {Y : Type 0} (o : Option (List ℕ)) (limit : ℕ) (missing long : Y) (next : List ℕ → Y) → IsSomeAnd o (λ bytes. limit < length bytes) → comes_of o limit missing long next ≡ long
comes_long None limit missing long next h = absurd h
comes_long (Some bytes) limit missing long next h =
    let test : nat_lt limit (length bytes) ≡ true = grind (arith, nat_tests) in
    rw test refl

told_bytes : (contents : Contents) (held : Option Contents) (name bytes : List ℕ) → held ≡ Some contents → Tells held name bytes → contents name ≡ Some bytes
told_bytes contents held name bytes e h = subst (λ z. Tells z name bytes) e h

-- the names asked for are the first of the plan's
pub names_front : {E X : Type 0} (contents : Contents) (p : Plan E X) (s t : FilesSeen) (r : Result X (Stop E)) → s.held ≡ Some contents → Follows p s t r → AsksFront s.asked t.asked (names_of contents p)
names_front contents (done x) s t r told (h, same) = front_none _ _ _ (ap (λ z. z.asked) same)
names_front contents (refuse e) s t r told (h, same) = front_none _ _ _ (ap (λ z. z.asked) same)
names_front contents (ask name limit next) s t (Ok x) told (inl missed) = absurd missed
names_front contents (ask name limit next) s t (Err e) told (inl missed) = front_missed _ _ _ _ (missed_asked name limit s t e missed)
names_front contents (ask name limit next) s t r told (inr (bytes, mid, got, goes)) =
    let one = comes_ok (contents name) limit [] [] (λ z. names_of contents (next z)) bytes (told_bytes contents s.held name bytes told got.tells) got.within in
    subst (λ z. AsksFront s.asked t.asked (name ∷ z)) (sym one)
    (front_then s.asked mid.asked t.asked name _ got.asked.asked (names_front contents (next bytes) mid t r (got.asked.moved.held ∙ told) goes))

-- where the plan gave an answer, all its names were asked for
pub names_all : {E X : Type 0} (contents : Contents) (p : Plan E X) (s t : FilesSeen) (x : X) → s.held ≡ Some contents → Follows p s t (Ok x) → t.asked ≡ s.asked ++ names_of contents p
names_all contents (done y) s t x told (h, same) = ap (λ z. z.asked) same ∙ sym (append-nil s.asked)
names_all contents (refuse e) s t x told (h, same) = absurd (cc)
names_all contents (ask name limit next) s t x told (inl missed) = absurd missed
names_all contents (ask name limit next) s t x told (inr (bytes, mid, got, goes)) =
    let one = comes_ok (contents name) limit [] [] (λ z. names_of contents (next z)) bytes (told_bytes contents s.held name bytes told got.tells) got.within in
    let rest = names_all contents (next bytes) mid t x (got.asked.moved.held ∙ told) goes in
    subst (λ z. t.asked ≡ s.asked ++ (name ∷ z)) (sym one)
    (rest ∙ ap (λ z. z ++ names_of contents (next bytes)) got.asked.asked ∙ append_assoc s.asked (name ∷ []) (names_of contents (next bytes)))

settled : {E X : Type 0} (r : Result X (Stop E)) (read : Result X E) (whole : Result X (Stop E)) → Gives r read → ((x : X) → read ≡ Ok x → whole ≡ Ok x) → ((e : E) → read ≡ Err e → whole ≡ Err (Refused e)) → Settles r whole
settled (Ok x) read whole h ok err = ok x h
settled (Err (Refused e)) read whole h ok err = err e h
settled (Err (Read file)) read whole h ok err = tt
settled (Err (TooLong file limit)) read whole h ok err = absurd h
settled (Err NoMemory) read whole h ok err = tt

missed_settles : {E X : Type 0} (contents : Contents) (name : List ℕ) (limit : ℕ) (next : List ℕ → Result X (Stop E)) (s t : FilesSeen) (e : Stop E) → s.held ≡ Some contents → Missed name limit s t e → Settles {X = X} (Err e) (comes_of (contents name) limit (Err (Read name)) (Err (TooLong name limit)) next)
missed_settles contents name limit next s t (Read file) told missed = tt
missed_settles contents name limit next s t (TooLong file n) told (e, e', asked, passes, calm) =
    let long = subst (λ z. PassesLimit z name limit s.taken t.taken) told passes in
    comes_long (contents name) limit _ _ next long ∙ ap₂ (λ f z. Err (TooLong f z)) (sym e) (sym e')
missed_settles contents name limit next s t (Refused e) told missed = absurd missed
missed_settles contents name limit next s t NoMemory told missed = tt

-- an answer that is neither a read fault nor want of memory is what the plan comes to
pub determined : {E X : Type 0} (contents : Contents) (p : Plan E X) (s t : FilesSeen) (r : Result X (Stop E)) → s.held ≡ Some contents → Follows p s t r → Settles r (outcome_of contents p)
determined contents (done x) s t r told (h, same) = settled r (Ok x) (Ok x) h (λ y e. let w : x ≡ y = cc in ap Ok w) (λ y e. absurd (cc))
determined contents (refuse e) s t r told (h, same) = settled r (Err e) (Err (Refused e)) h (λ y q. absurd (cc)) (λ y q. let w : e ≡ y = cc in ap (λ z. Err (Refused z)) w)
determined contents (ask name limit next) s t (Ok x) told (inl missed) = absurd missed
determined contents (ask name limit next) s t (Err e) told (inl missed) = missed_settles contents name limit _ s t e told missed
determined contents (ask name limit next) s t r told (inr (bytes, mid, got, goes)) =
    let one = comes_ok (contents name) limit (Err (Read name)) (Err (TooLong name limit)) (λ z. outcome_of contents (next z)) bytes (told_bytes contents s.held name bytes told got.tells) got.within in
    subst (λ z. Settles r z) (sym one) (determined contents (next bytes) mid t r (got.asked.moved.held ∙ told) goes)
