-- Chunks that a sink was given, one after the other.
use Rattle.hash_cuts.proofs.Common.{◌≡◌, ℕ, ◌+◌, ◌-◌, ◌<◌, ◌≤◌, ◌⊎◌, List, [], ◌∷◌, ◌++◌, length, length-append, take, drop, Option, Some, None, inl, inr, arith, ap, subst, sym, ◌∙◌, refl, IsAtEnd, cases_lt, append-nil, drop-append-le, drop-take, take-append-drop, take-append-le, Cutting, HasSizes, chunks, first_cut, CutsAll, CutsRead, GivesFirst, IsBegun, Taken, Takes, append_assoc, Consumes-trans, length-drop, length-take, nat_tests, common_steps, rules}
use Rattle.streams.specs.Records.{ComeFirst}
use Rattle.streams.specs.Streams.{ReadsBehind}
use Rattle.streams.proofs.RecordLemmas.{first_all, first_behind, first_both, first_none}
use Rattle.hash_cuts.proofs.ChunkLemmas.{chunks-first, chunks-none, first_cut-le}
use Rattle.hash_cuts.proofs.CutLemmas.{first_cut-is, first_cut-from}
use Rattle.hash_cuts.proofs.InStep.{is_cut-same, own-bytes}

module _ (cuts : Cutting) (sizes : HasSizes cuts) (rest : List ℕ) where
  -- a chunk that ends before the bytes do, or has as many bytes as may be, ends there whatever comes behind
  ends-there : (more : List ℕ) → (first_cut cuts rest < length rest) ⊎ (first_cut cuts rest ≡ cuts.most)
      → first_cut cuts (rest ++ more) ≡ first_cut cuts rest
  ends-there more ends =
      let n = first_cut cuts rest in
      let is = first_cut-is cuts rest in
      let le : n ≤ length rest = first_cut-le cuts sizes rest in
      let len = length-append rest more in
      let parts : take n rest ++ (drop n rest ++ more) ≡ rest ++ more =
      sym (append_assoc (take n rest) (drop n rest) more) ∙ ap (λ t. t ++ more) (take-append-drop n rest) in
      elim ends [
        | inl before ↦ ap (first_cut cuts) (sym parts) ∙ own-bytes cuts sizes rest (drop n rest ++ more) before
        | inr full ↦
            sym (first_cut-from cuts (rest ++ more) n (grind (arith, nat_tests, common_steps, is_cut-same)))
      ]

  one-first : 0 < length rest → (first_cut cuts rest < length rest) ⊎ (first_cut cuts rest ≡ cuts.most)
      → ComeFirst (chunks cuts) rest (take (first_cut cuts rest) rest ∷ []) (drop (first_cut cuts rest) rest)
  one-first some ends = search (rules, first_cut-le, chunks-first, length-append, ends-there, take-append-le, drop-append-le)

  -- the chunk that is begun is the last, if it is not empty
  begun-all : IsBegun cuts rest → 0 < length rest → chunks cuts rest ≡ rest ∷ []
  begun-all begun some = grind (arith, nat_tests, common_steps, chunks-first, chunks-none, length-drop)

module _ {S : Type 0} (taken : Taken S) where
  takes-none : (old : S) → Takes taken old old [] None
  takes-none old start before is = rw (append-nil before) is

  -- more chunks
  takes-more : (old new newer : S) (given others : List (List ℕ)) (refused : Option (List ℕ)) → Takes taken old new given None
      → Takes taken new newer others refused → Takes taken old newer (given ++ others) refused
  takes-more old new newer given others refused first then start before is =
      subst (λ list. taken start newer list refused) (append_assoc before given others) (then start (before ++ given) (first start before is))

module _ {S : Type 0} {taken : Taken S} where
  pub gives-none : {cuts : Cutting} (text : List ℕ) (old : S) → GivesFirst taken cuts text text None old old
  gives-none text old = record { given = []; takes = takes-none taken old; first = first_none }

  module _ {cuts : Cutting} {text rest : List ℕ} {old new : S} (gives : GivesFirst taken cuts text rest None old new) where
    -- the sink refused a chunk
    pub gives-refused : {newer : S} {chunk : List ℕ} → Takes taken new newer [] (Some chunk)
        → GivesFirst taken cuts text rest (Some chunk) old newer
    gives-refused {newer} {chunk} refuses = grind (arith, nat_tests, common_steps, append-nil, takes-more)

    -- one chunk more
    pub gives-more : {newer : S} → HasSizes cuts → 0 < length rest
        → (first_cut cuts rest < length rest) ⊎ (first_cut cuts rest ≡ cuts.most)
        → Takes taken new newer (take (first_cut cuts rest) rest ∷ []) None
        → GivesFirst taken cuts text (drop (first_cut cuts rest) rest) None old newer
    gives-more {newer} sizes some ends takes = record {
      given = gives.given ++ take (first_cut cuts rest) rest ∷ [];
      takes = takes-more taken old new newer gives.given (take (first_cut cuts rest) rest ∷ []) None gives.takes takes;
      first = first_both gives.first (one-first cuts sizes rest some ends);
    }

    -- bytes behind, and the chunks of the rest with these
    gives-behind : {rest' : List ℕ} {refused : Option (List ℕ)} {newer : S} (more : List ℕ)
        → GivesFirst taken cuts (rest ++ more) rest' refused new newer → GivesFirst taken cuts (text ++ more) rest' refused old newer
    gives-behind {refused = refused} {newer = newer} more then = record {
      given = gives.given ++ then.given;
      takes = takes-more taken old new newer gives.given then.given refused gives.takes then.takes;
      first = first_both (first_behind more gives.first) then.first;
    }

    -- with the last chunk they are all
    gives-all : (newer : S) → HasSizes cuts → IsBegun cuts rest → (length rest ≡ 0 → Takes taken new newer [] None)
        → (0 < length rest → Takes taken new newer (rest ∷ []) None) → Takes taken old newer (chunks cuts text) None
    gives-all newer sizes begun none one = grind (arith, nat_tests, common_steps, cases_lt, begun-all, chunks-none, first_all, takes-more)

  module _ {cuts : Cutting} {left mid : Option (List ℕ)} {old new : S} {bytes : ℕ} {rest : List ℕ}
      (before : CutsRead taken cuts left mid old new bytes rest None) where
    -- more was read, and the sink was given the first chunks of what was left with it
    pub reads-first : {left' : Option (List ℕ)} {newer : S} {count : ℕ} {whole rest' : List ℕ} {refused : Option (List ℕ)}
        → ReadsBehind rest whole mid left' count → GivesFirst taken cuts whole rest' refused new newer
        → CutsRead taken cuts left left' old newer (bytes + count) rest' refused
    reads-first {rest' = rest'} {refused = refused} (more, stands, long, read) gives =
        search (rules, Consumes-trans, length-append, gives-behind)

    -- all was read, and the last chunk given
    pub reads-all : {newer : S} → HasSizes cuts → IsAtEnd mid → IsBegun cuts rest → (length rest ≡ 0 → Takes taken new newer [] None)
        → (0 < length rest → Takes taken new newer (rest ∷ []) None) → CutsAll taken cuts left mid old newer bytes
    reads-all {newer} sizes end begun none one = grind (arith, nat_tests, common_steps, gives-all before.gives newer sizes begun none one)

    -- the sink refused the last chunk
    pub reads-refused : {newer : S} {chunk : List ℕ} → Takes taken new newer [] (Some chunk)
        → CutsRead taken cuts left mid old newer bytes rest (Some chunk)
    reads-refused refuses = grind (arith, nat_tests, common_steps, gives-refused)

  -- nothing was read
  pub reads-none : (cuts : Cutting) (left : Option (List ℕ)) (old : S) → CutsRead taken cuts left left old old 0 [] None
  reads-none cuts None old = record { text = []; read = tt; count = refl; gives = gives-none [] old }
  reads-none cuts (Some text) old = record { text = []; read = refl; count = refl; gives = gives-none [] old }

-- what was moved to the front
pub moved-front : (buffer moved : List ℕ) (given to k : ℕ) → given ≤ length (take to buffer) → k ≡ to - given
    → take (to - given) moved ≡ take (to - given) (drop given buffer) → take k moved ≡ drop given (take to buffer)
moved-front buffer moved given to k within count kept =
    let whole : given + (to - given) ≡ to = omega (arith, within, length-take to buffer) in
    rw count (kept ∙ sym (drop-take given (to - given) buffer) ∙ ap (λ n. drop given (take n buffer)) whole)
