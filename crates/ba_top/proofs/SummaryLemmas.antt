-- What is counted, entry by entry.
use Rattle.std.proofs.Common.{◌≡◌, ◌∙◌, sym, ap, ℕ, ◌+◌, ◌<◌, Bool, List, [], ◌∷◌, ◌++◌, arith, length, take, get_or, count_by, sum_by, length-append, zero-add, cond}
use Rattle.std.proofs.lemmas.Grind.{flat_map-append}
use Rattle.std.proofs.lemmas.List.Sums.{sum_by-append}
use Rattle.std.proofs.lemmas.List.{take_more}
use Rattle.std.specs.List.{flat_map}
use Rattle.ba_lanes.specs.Legal.{is_memory}
use Rattle.ba_lanes.specs.declared.journal.Entry.{Entry}
use Rattle.ba_session.specs.declared.reply.Reply.{Reply}
use Rattle.ba_top.specs.Text.{is_allowed, is_answer, is_barred, is_begin, is_block, is_unread, reply_in, row_count, summary_of}

replies : (f : Reply → ℕ) (xs ys : List Entry) → sum_by f (flat_map reply_in (xs ++ ys)) ≡ sum_by f (flat_map reply_in xs) + sum_by f (flat_map reply_in ys)
replies f xs ys = ap (sum_by f) (flat_map-append reply_in xs ys) ∙ sum_by-append f (flat_map reply_in xs) (flat_map reply_in ys)

counts : (p : Entry → Bool) (xs ys : List Entry) → count_by p (xs ++ ys) ≡ count_by p xs + count_by p ys
counts p xs ys = sum_by-append (λ e. cond (p e) 1 0) xs ys

-- questions and reads are counted together
together : (f : Reply → ℕ) (p : Entry → Bool) (xs ys : List Entry) → sum_by f (flat_map reply_in (xs ++ ys)) + count_by p (xs ++ ys)
    ≡ (sum_by f (flat_map reply_in xs) + count_by p xs) + (sum_by f (flat_map reply_in ys) + count_by p ys)
together f p xs ys = let a = replies f xs ys in let b = counts p xs ys in omega (arith, a, b)

-- what is counted of entries and of those behind them
pub summary_both : (xs ys : List Entry) → summary_of (xs ++ ys) ≡ record {
  answered = (summary_of xs).answered + (summary_of ys).answered;
  blocked = (summary_of xs).blocked + (summary_of ys).blocked;
  lines = (summary_of xs).lines + (summary_of ys).lines;
  memory = (summary_of xs).memory + (summary_of ys).memory;
  requests = (summary_of xs).requests + (summary_of ys).requests;
  rows = (summary_of xs).rows + (summary_of ys).rows;
  unread = (summary_of xs).unread + (summary_of ys).unread;
}
summary_both xs ys = λ i. record {
  answered = together (λ r. cond (is_answer r) 1 0) is_allowed xs ys i;
  blocked = together (λ r. cond (is_block r) 1 0) is_barred xs ys i;
  lines = length-append xs ys i;
  memory = counts is_memory xs ys i;
  requests = counts is_begin xs ys i;
  rows = replies row_count xs ys i;
  unread = replies (λ r. cond (is_unread r) 1 0) xs ys i;
}

pub summary_step : (entries : List Entry) (i : ℕ) (entry : Entry) → i < length entries → entry ≡ get_or entries i entry → summary_of (take i entries ++ entry ∷ []) ≡ summary_of (take (i + 1) entries)
summary_step entries i entry below is =
    ap summary_of (sym (take_more entries i entry below ∙ ap (λ z. take i entries ++ z ∷ []) (sym is)))

-- how many of the entries so far found no memory
pub memory_step : (entries : List Entry) (i : ℕ) (entry : Entry) → i < length entries → entry ≡ get_or entries i entry → count_by is_memory (take (i + 1) entries) ≡ count_by is_memory (take i entries) + cond (is_memory entry) 1 0
memory_step entries i entry below is =
    ap (count_by is_memory) (take_more entries i entry below ∙ ap (λ z. take i entries ++ z ∷ []) (sym is)) ∙ sum_by-append (λ e. cond (is_memory e) 1 0) (take i entries) (entry ∷ []) ∙ ap (λ n. count_by is_memory (take i entries) + n) (zero-add (cond (is_memory entry) 1 0))
