-- Laws of the numbers and marks of a text, and of rows of numbers. Assumes nothing.
use Prim.Native.Nat.{ℕ, ◌+◌, ◌-◌, ◌≤◌, ◌<◌}
use mathlib.Core.Path.{◌≡◌, sym, ap, ◌∙◌}
use mathlib.Core.Bool.{true, false}
use mathlib.Core.List.{List, [], ◌∷◌, ◌++◌, map, append-nil}
use native.Mathlib.Numerals.{add-one}
use lib.ListN.{length, get_or, take, drop, drop_of_length-le}
use lib.Seq.{drop-cons}
use Rattle.std.specs.Prelude.{Option, Some, None, filter, unwrap_or, option_to_list, MatchOption}
use Rattle.std.specs.Char.{is_ascii_digit}
use Rattle.std.proofs.lemmas.List.{take_more, map-append}
use Rattle.std.proofs.lemmas.List.Elements.{filter-append}
use Rattle.parsing.specs.Split.{Held}
use Rattle.printing.specs.Text.{decimal}
use Rattle.tapes.specs.Parts.{grown, numbers_from, marks_of}
use Rattle.tapes.specs.Printed.{separator, rows}
use Rattle.tapes.proofs.Holds.{Coming, come_less, come_none}

-- an option as a slice
pub as_list : (o : Option ℕ) (l : List ℕ) → MatchOption o (l ≡ []) (λ x. l ≡ x ∷ []) → l ≡ option_to_list o
as_list None l e = e
as_list (Some x) l e = e

-- what a byte does to the numbers
module _ {was all now : List ℕ} {place : ℕ} (s : List ℕ) (i : ℕ) (begun : Option ℕ) where
  pub on_digit : (n : ℕ) → i < length s → is_ascii_digit (get_or s i 0) ≡ true → n ≡ grown (unwrap_or begun 0) (get_or s i 0)
      → Coming was 0 all now place (numbers_from begun (drop i s)) → Coming was 0 all now place (numbers_from (Some n) (drop (i + 1) s))
  unfolding numbers_from
  on_digit n h e g c = rw (g, add-one i) (rw (drop-cons s i 0, e) at c)

  pub on_other : {next : List ℕ} {after : ℕ} (l : List ℕ) → i < length s → is_ascii_digit (get_or s i 0) ≡ false → l ≡ option_to_list begun
      → Coming was 0 all now place (numbers_from begun (drop i s)) → Held l now place next after → Coming was 0 all next after (numbers_from None (drop (i + 1) s))
  unfolding numbers_from
  on_other l h e g c k =
      let t : numbers_from begun (drop i s) ≡ l ++ numbers_from None (drop (i + 1) s) = rw (drop-cons s i 0, add-one i, e, g) in
      come_less (rw t at c) k

  pub on_end : {next : List ℕ} {after : ℕ} (l : List ℕ) → length s ≤ i → l ≡ option_to_list begun
      → Coming was 0 all now place (numbers_from begun (drop i s)) → Held l now place next after → Held all was 0 next after
  unfolding numbers_from
  on_end l h g c k =
      let t : numbers_from begun (drop i s) ≡ l ++ [] = rw (drop_of_length-le s {i = i} h, g) (sym (append-nil (option_to_list begun))) in
      come_none (come_less (rw t at c) k)

module _ (s : List ℕ) (i : ℕ) where
  -- what a byte does to the marks
  module _ (h : i < length s) where
    marks_more : marks_of (take i s) ++ marks_of (get_or s i 0 ∷ []) ≡ marks_of (take (i + 1) s)
    unfolding marks_of
    marks_more =
        let b = get_or s i 0 ∷ [] in
        sym
        (ap (λ (l : List ℕ). map (λ b. b - 48) (filter is_ascii_digit l)) (take_more s i 0 h)
        ∙ ap (map (λ b. b - 48)) (filter-append is_ascii_digit (take i s) b)
        ∙ map-append (λ b. b - 48) (filter is_ascii_digit (take i s)) (filter is_ascii_digit b))

    pub mark_more : is_ascii_digit (get_or s i 0) ≡ true → marks_of (take i s) ++ ((get_or s i 0 - 48) ∷ []) ≡ marks_of (take (i + 1) s)
    unfolding marks_of
    mark_more e =
        let one : marks_of (get_or s i 0 ∷ []) ≡ (get_or s i 0 - 48) ∷ [] = rw e in
        ap (λ (l : List ℕ). marks_of (take i s) ++ l) (sym one) ∙ marks_more

    pub no_mark : is_ascii_digit (get_or s i 0) ≡ false → marks_of (take i s) ≡ marks_of (take (i + 1) s)
    unfolding marks_of
    no_mark e =
        let one : marks_of (get_or s i 0 ∷ []) ≡ [] = rw e in
        sym (append-nil (marks_of (take i s))) ∙ ap (λ (l : List ℕ). marks_of (take i s) ++ l) (sym one) ∙ marks_more

  rows_turn : (width : ℕ) → i < length s → rows width i (drop i s) ≡ (separator width i ∷ decimal (get_or s i 0)) ++ rows width (i + 1) (drop (i + 1) s)
  unfolding rows
  rows_turn width h = rw (drop-cons s i 0, add-one i)

  rows_end : (width : ℕ) → length s ≤ i → rows width i (drop i s) ≡ []
  unfolding rows
  rows_end width h = rw (drop_of_length-le s {i = i} h)

pub rows_on : {was all now next : List ℕ} {at place after : ℕ} (s : List ℕ) (i width mark : ℕ) → i < length s → mark ≡ separator width i
    → Coming was at all now place (rows width i (drop i s)) → Held (mark ∷ decimal (get_or s i 0)) now place next after
    → Coming was at all next after (rows width (i + 1) (drop (i + 1) s))
rows_on s i width mark h m c k =
    let e : rows width i (drop i s) ≡ (mark ∷ decimal (get_or s i 0)) ++ rows width (i + 1) (drop (i + 1) s) = rw m (rows_turn s i width h) in
    come_less (rw e at c) k

pub rows_done : {was all now : List ℕ} {at place : ℕ} (s : List ℕ) (i width : ℕ) → length s ≤ i → Coming was at all now place (rows width i (drop i s))
    → Held all was at now place
rows_done s i width h c = come_none (rw (rows_end s i width h) at c)
