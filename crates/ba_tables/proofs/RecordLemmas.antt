-- The records of a text, one after the other.
use Rattle.std.proofs.Common.{◌≡◌, ℕ, zero, suc, ◌+◌, ◌<◌, ◌≤◌, Bool, true, false, cond, ◌==◌, ◌&&◌, List, [], ◌∷◌, length, Option, Some, None, refl, arith, ◌∙◌, ap, inl, add-one}
use Rattle.std.specs.Prelude.{IsSome}
use Rattle.csv.specs.Machine.{Read, next_record, ends_at_end, ends_with, step, is_byte, is_end, in_field, start_field, start_record, after_end, field_after, fields_after, line_feed, carriage_return}
use Rattle.csv.specs.Reading.{NextIs, ReadRecord, ReadsNext, default_config, pending_of, records_from, records_next, took_first}
use Rattle.csv.specs.declared.parser.Action.{Action}
use Rattle.csv.specs.declared.parser.Config.{Config}
use Rattle.csv.specs.declared.parser.State.{State}
use Rattle.csv.specs.declared.parser.State.TheVariants as st
use Rattle.csv.specs.declared.parser.Terminator.{Terminator}
use Rattle.csv.specs.declared.parser.Terminator.TheVariants as term
use Rattle.ba_tables.specs.Left.{BytesReader, IsReading, bytes_left, records_at, records_left}

-- a step that ends a record leaves a state in which the end of the text ends none
abbrev Rests : State × Action → Type 0
Rests p = is_end p.1 ≡ true → ends_at_end p.0 ≡ false

either : (b : Bool) (x y : State × Action) → Rests x → Rests y → Rests (cond b x y)
either true x y h g = h
either false x y h g = g

rests_end : (t : Terminator) (c : ℕ) → ends_at_end (after_end t c) ≡ false
rests_end term.CRLF c = by (c == carriage_return)
  where
    by : (b : Bool) → ends_at_end (cond b st.AfterCr st.StartRecord) ≡ false
    by true = refl
    by false = refl
rests_end (term.Any t) c = refl

rests_in_field : (cfg : Config) (c : ℕ) → Rests (in_field cfg c)
rests_in_field cfg c = either (c == cfg.delimiter) _ _ (λ e. cc e) (either (ends_with cfg.terminator c) _ _ (λ e. rests_end cfg.terminator c) (λ e. cc e))

rests_start_field : (cfg : Config) (c : ℕ) → Rests (start_field cfg c)
rests_start_field cfg c = either (cfg.quoting && (c == cfg.quote)) _ _ (λ e. cc e) (rests_in_field cfg c)

rests_start_record : (cfg : Config) (c : ℕ) → Rests (start_record cfg c)
rests_start_record cfg c = either (ends_with cfg.terminator c) _ _ (λ e. cc e) (either (is_byte cfg.comment c) _ _ (λ e. cc e) (rests_start_field cfg c))

rests_step : (cfg : Config) (s : State) (c : ℕ) → Rests (step cfg s c)
rests_step cfg st.StartRecord c = rests_start_record cfg c
rests_step cfg st.StartField c = rests_start_field cfg c
rests_step cfg st.InField c = rests_in_field cfg c
rests_step cfg st.InQuoted c = either (cfg.quoting && (c == cfg.quote)) _ _ (λ e. cc e) (either (cfg.quoting && is_byte cfg.escape c) _ _ (λ e. cc e) (λ e. cc e))
rests_step cfg st.InEscape c = λ e. cc e
rests_step cfg st.AfterQuote c = either (cfg.quoting && cfg.double_quote && (c == cfg.quote)) _ _ (λ e. cc e) (rests_in_field cfg c)
rests_step cfg st.InComment c = either (c == line_feed) _ _ (λ e. cc e) (λ e. cc e)
rests_step cfg st.AfterCr c = either (c == line_feed) _ _ (λ e. cc e) (rests_start_record cfg c)

-- a record that was read ends between two records, and takes no byte twice
abbrev Shrinks : ℕ → Read → Type 0
Shrinks n p = (ends_at_end p.1 ≡ false) × (length p.2 ≤ n)

last_shrinks : (b : Bool) (f : List (List ℕ)) (p : Read) → cond b (Some (f, st.StartRecord, [])) None ≡ Some p → Shrinks 0 p
last_shrinks true f p e =
    let s : st.StartRecord ≡ p.1 = cc e in
    let r : [] ≡ p.2 = cc e in
    rw (← s, ← r) (refl, omega arith)
last_shrinks false f p e = cc e

some_record : (f : List (List ℕ)) (s : State) (r : List ℕ) (p : Read) → ◌≡◌ {A = Option Read} (Some (f, s, r)) (Some p) → (s ≡ p.1) × (r ≡ p.2)
some_record f s r p e = (cc e, cc e)

shrinks : (cfg : Config) (s : State) (fs : List (List ℕ)) (f xs : List ℕ) (p : Read) → next_record cfg s fs f xs ≡ Some p → Shrinks (length xs) p
unfolding next_record
shrinks cfg s fs f [] p e = last_shrinks (ends_at_end s) _ p e
shrinks cfg s fs f (c ∷ rest) p e = by (is_end (step cfg s c).1) refl e (shrinks cfg (step cfg s c).0 _ _ rest p)
  where
    by : (b : Bool) → is_end (step cfg s c).1 ≡ b
        → cond (is_end (step cfg s c).1) (Some (fields_after (step cfg s c).1 fs f, (step cfg s c).0, rest)) (next_record cfg (step cfg s c).0 (fields_after (step cfg s c).1 fs f) (field_after (step cfg s c).1 c f) rest) ≡ Some p
        → (next_record cfg (step cfg s c).0 (fields_after (step cfg s c).1 fs f) (field_after (step cfg s c).1 c f) rest ≡ Some p → Shrinks (length rest) p)
        → Shrinks (suc (length rest)) p
    by true t q more =
        let e2 = some_record _ _ _ p (rw t at q) in
        rw (← e2.0, ← e2.1) (rests_step cfg s c t, omega arith)
    by false t q more = let h = more (rw t at q) in (h.0, omega arith)

-- a record that begins between two records takes a byte
takes_byte : (cfg : Config) (s : State) (xs : List ℕ) (p : Read) → ends_at_end s ≡ false → next_record cfg s [] [] xs ≡ Some p
    → (ends_at_end p.1 ≡ false) × (length p.2 < length xs)
unfolding next_record
takes_byte cfg s [] p r e = cc (rw r at e)
takes_byte cfg s (c ∷ rest) p r e = by (is_end (step cfg s c).1) refl e (shrinks cfg (step cfg s c).0 _ _ rest p)
  where
    by : (b : Bool) → is_end (step cfg s c).1 ≡ b
        → cond (is_end (step cfg s c).1) (Some (fields_after (step cfg s c).1 [] [], (step cfg s c).0, rest)) (next_record cfg (step cfg s c).0 (fields_after (step cfg s c).1 [] []) (field_after (step cfg s c).1 c []) rest) ≡ Some p
        → (next_record cfg (step cfg s c).0 (fields_after (step cfg s c).1 [] []) (field_after (step cfg s c).1 c []) rest ≡ Some p → Shrinks (length rest) p)
        → (ends_at_end p.1 ≡ false) × (length p.2 < suc (length rest))
    by true t q more =
        let e2 = some_record _ _ _ p (rw t at q) in
        rw (← e2.0, ← e2.1) (rests_step cfg s c t, omega arith)
    by false t q more = let h = more (rw t at q) in (h.0, omega arith)

-- any number above that of the bytes gives all records
same_records : (cfg : Config) (n m : ℕ) (s : State) (xs : List ℕ) → ends_at_end s ≡ false → length xs < n → length xs < m → records_from cfg n s xs ≡ records_from cfg m s xs
unfolding records_from
same_records cfg zero m s xs r h k = absurd (omega arith)
same_records cfg (suc n) zero s xs r h k = absurd (omega arith)
same_records cfg (suc n) (suc m) s xs r h k = by (next_record cfg s [] [] xs) refl (λ p. same_records cfg n m p.1 p.2)
  where
    by : (o : Option Read) → next_record cfg s [] [] xs ≡ o
        → ((p : Read) → ends_at_end p.1 ≡ false → length p.2 < n → length p.2 < m → records_from cfg n p.1 p.2 ≡ records_from cfg m p.1 p.2)
        → records_next (records_from cfg n) (next_record cfg s [] [] xs) ≡ records_next (records_from cfg m) (next_record cfg s [] [] xs)
    by None e more = rw e refl
    by (Some p) e more =
        let t = takes_byte cfg s xs p r e in
        let less = t.1 in
        rw e (ap (λ rest. p.0 ∷ rest) (more p t.0 (omega arith) (omega arith)))

-- the first of the records from a place, and the others
one_more : (s s2 : State) (xs ys : List ℕ) (f : List (List ℕ)) → ends_at_end s ≡ false → next_record default_config s [] [] xs ≡ Some (f, s2, ys) → records_at s (Some xs) ≡ f ∷ records_at s2 (Some ys)
unfolding records_from
one_more s s2 xs ys f r e =
    let t = takes_byte default_config s xs (f, s2, ys) r e in
    let less = t.1 in
    rw (add-one, e) (ap (λ rest. f ∷ rest) (same_records default_config (length xs) (length ys + 1) s2 ys t.0 less (omega arith)))

no_more : (s : State) (xs : List ℕ) → next_record default_config s [] [] xs ≡ None → records_at s (Some xs) ≡ []
unfolding records_from
no_more s xs e = rw (add-one, e) refl

next_some : (o : Option Read) (f : List (List ℕ)) (s : State) (z : List ℕ) → NextIs o true f s z → o ≡ Some (f, s, z)
next_some None f s z n = cc n
next_some (Some p) f s z n = rw (n.1, n.2, n.3) refl

next_none : (o : Option Read) (f : List (List ℕ)) (s : State) (z : List ℕ) → NextIs o false f s z → o ≡ None
next_none None f s z n = refl
next_none (Some p) f s z n = cc n.0

found_known : (cfg : Config) (a b : State) (y : List ℕ) (k : Option (List ℕ)) (f : List (List ℕ)) → ReadsNext cfg a (Some y) k true f b
    → (z : List ℕ) × (k ≡ Some z) × (next_record cfg a [] [] y ≡ Some (f, b, z))
found_known cfg a b y None f r = absurd r
found_known cfg a b y (Some z) f r = (z, refl, next_some _ f b z r)

ended_known : (cfg : Config) (a b : State) (y : List ℕ) (k : Option (List ℕ)) (f : List (List ℕ)) → ReadsNext cfg a (Some y) k false f b → next_record cfg a [] [] y ≡ None
ended_known cfg a b y None f r = absurd r
ended_known cfg a b y (Some z) f r = next_none _ f b z r

is_known : {X : Type 0} (o : Option X) → IsSome o → (x : X) × (o ≡ Some x)
is_known None h = cc h
is_known (Some x) h = (x, refl)

-- a read that gave a record, and one that gave none
pub record ReadOne (a b : BytesReader) (f : List (List ℕ)) : Type 0 where
  pub reading : IsReading b
  pub left : records_left a ≡ f ∷ records_left b

pub read_one : (a b : BytesReader) (f : List (List ℕ)) → IsReading a → ReadRecord (λ slice. Some slice.now) a b true f → took_first b ≡ true → ReadOne a b f
read_one a b f h r first =
    let (y, known) = is_known (bytes_left a) h.known in
    let (z, pending, next) = found_known default_config a.state b.state y (pending_of (Some b.rdr.now) b) f (rw (h.config, known) at r.0) in
    let left : bytes_left b ≡ Some z = rw r.1 pending in
    record {
      reading = record {
        config = r.2 ∙ h.config;
        trims = r.3 ∙ h.trims;
        ready = inl first;
        known = rw left refl;
        between = (takes_byte default_config a.state y (f, b.state, z) h.between next).0;
      };
      left = rw (known, left) (one_more a.state b.state y z f h.between next);
    }

pub read_none : (a b : BytesReader) (f : List (List ℕ)) → IsReading a → ReadRecord (λ slice. Some slice.now) a b false f → records_left a ≡ []
read_none a b f h r =
    let (y, known) = is_known (bytes_left a) h.known in
    rw known (no_more a.state y (ended_known default_config a.state b.state y (pending_of (Some b.rdr.now) b) f (rw (h.config, known) at r.0)))
