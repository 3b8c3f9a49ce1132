-- What comes of cutting a file, by what comes of cutting what it holds.
use Rattle.cuts_core.proofs.Common.{◌≡◌, ◌<◌, ◌+◌, ℕ, ◌++◌, ◌∷◌, [], List, length, length-append, take, Bool, true, false, Option, Some, None, Result, Ok, Err, OnOk, IsTrue, inr, append-nil, arith, ap, refl, EndsFile, IsTorn, Opening, concat, Failure, TooMany, Cutting, chunks, first_cut, CutsAll, CutsRead, IsBegun, Taken}
use Rattle.streams.specs.declared.failure.Failure.TheVariants.{NoMemory}

-- the bytes of chunks and one more
pub bytes_more : (given : List (List ℕ)) (chunk : List ℕ) → length (concat (given ++ chunk ∷ [])) ≡ length (concat given) + length chunk
bytes_more [] chunk = omega (arith, ap length (append-nil chunk))
bytes_more (first ∷ given) chunk =
    omega (arith, length-append first (concat (given ++ chunk ∷ [])), length-append first (concat given), bytes_more given chunk)

module _ {S : Type 0} (taken : Taken S) (cuts : Cutting) (opens : Opening) (held left : Option (List ℕ)) (old new : S) (bytes : ℕ)
    (is_open : opens (Ok held)) where
  -- the end was seen, or the limit was met
  pub ends-taken : (ended : Bool) → (IsTrue ended → CutsAll taken cuts held left old new bytes)
      → (ended ≡ false → (rest : List ℕ) × IsBegun cuts rest × CutsRead taken cuts held left old new bytes rest None)
      → EndsFile taken cuts opens old new (Ok ended)
  ends-taken true all first =
      let whole = all refl in (
        chunks cuts whole.text,
        (whole.text, left, record { held = held; opened = is_open; read = whole.read }, whole.end, refl),
        whole.takes,
      )
  ends-taken false all first =
      let (rest, begun, read) = first refl in (
        read.gives.given,
        inr (rest, (read.text, left, record { held = held; opened = is_open; read = read.read }, read.gives.first), begun),
        read.gives.takes,
      )

  -- the sink refused the first chunk of the rest
  pub ends-refused : (fault : Failure TooMany) (rest : List ℕ) → 0 < length rest
      → CutsRead taken cuts held left old new bytes rest (Some (take (first_cut cuts rest) rest)) → IsTorn taken cuts opens old new fault
  ends-refused fault rest some read = record {
    given = read.gives.given;
    refused = Some (take (first_cut cuts rest) rest);
    takes = read.gives.takes;
    torn = (rest, (read.text, left, record { held = held; opened = is_open; read = read.read }, read.gives.first), (some, refl));
    why = λ none. cc;
  }

  -- it refused none, and there was no memory
  pub ends-early : (rest : List ℕ) → IsBegun cuts rest → CutsRead taken cuts held left old new bytes rest None
      → IsTorn taken cuts opens old new NoMemory
  ends-early rest begun read = record {
    given = read.gives.given;
    refused = None;
    takes = read.gives.takes;
    torn = (rest, (read.text, left, record { held = held; opened = is_open; read = read.read }, read.gives.first), begun);
    why = λ none. refl;
  }

module _ {S : Type 0} (taken : Taken S) (cuts : Cutting) (opens : Opening) (old new : S) (start : taken old old [] None) where
  -- what holds of a sink whatever it was given
  pub after_any : (P : Type 0) → ((given : List (List ℕ)) (refused : Option (List ℕ)) → taken old new given refused → P)
      → (result : Result Bool (Failure TooMany)) → EndsFile taken cuts opens old new result → P
  after_any P holds (Ok whole) (given, is_cut, takes) = holds given None (takes old [] start)
  after_any P holds (Err fault) torn = holds torn.given torn.refused (torn.takes old [] start)

  -- and after a file that ended, of which it refused none
  pub after_all : (P : Type 0) → ((given : List (List ℕ)) → taken old new given None → P)
      → (result : Result Bool (Failure TooMany)) → EndsFile taken cuts opens old new result → OnOk result P
  after_all P holds (Ok whole) (given, is_cut, takes) = holds given (takes old [] start)
  after_all P holds (Err fault) torn = tt
