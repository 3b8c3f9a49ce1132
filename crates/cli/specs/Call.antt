-- The words of a call, behind the program's own name: options and operands, by the guidelines of POSIX for utilities (The Open Group Base
-- Specifications, 12.2), with GNU's names behind two hyphens, which are not shortened.
use Rattle.std.specs.Prelude.{ℕ, ◌≡◌, ◌+◌, ◌==◌, ◌&&◌, ◌++◌, if◌then◌else◌, Bool, true, false, List, [], ◌∷◌, Option, Some, None, fold, length, map, take, drop, codes}
use Rattle.std.specs.List.{find, flat_map, list_any}
use Rattle.std.specs.Option.{is_none}
use Rattle.std.specs.Str.{bytes_eq}
use Rattle.std.specs.declared.alloc.Global.{Global}
use Rattle.std.specs.declared.vec.Vec.{Vec}
use Rattle.cli.specs.declared.call.Misgiven.{Misgiven}
use Rattle.cli.specs.declared.call.Misgiven.TheVariants.{NoSuchName, NoSuchLetter, NoValue, HasValue}
use Rattle.cli.specs.declared.call.Opt.{Opt}
use Rattle.cli.specs.declared.call.Said.{Said}
use Rattle.cli.specs.declared.call.Said.TheVariants as said
use Rattle.cli.specs.declared.call.Wanting.{Wanting}

-- the word that ends the options
abbrev pub dashes : List ℕ
dashes = codes "--"

-- an option: its letter, if it has one, its name, and whether it takes a value
pub record Choice : Type 0 where
  pub letter : Option ℕ
  pub name : List ℕ
  pub has_value : Bool

abbrev pub flag : Option ℕ → List ℕ → Choice
flag letter name = record { letter = letter; name = name; has_value = false }

abbrev pub taking : Option ℕ → List ℕ → Choice
taking letter name = record { letter = letter; name = name; has_value = true }

-- what a call says: an option with its value, which is empty where it takes none, an operand, or what is wrong with an option
pub data Saying : Type 0 where
  Gives : (name value : List ℕ) → Saying
  Operand : (word : List ℕ) → Saying
  Errs : (misgiven : Misgiven) (word : List ℕ) → Saying

-- an option whose value is to be the next word, and the word that gives it
pub record Wants : Type 0 where
  pub name : List ℕ
  pub word : List ℕ

-- what one word says, and the option that wants the next word
pub record Spoken : Type 0 where
  pub says : List Saying
  pub wants : Option Wants

abbrev pub only : Saying → Spoken
only saying = record { says = saying ∷ []; wants = None }

abbrev pub nothing : Spoken
nothing = record { says = []; wants = None }

abbrev pub wanting : (name word : List ℕ) → Spoken
wanting name word = record { says = []; wants = Some (record { name = name; word = word }) }

abbrev pub first : Saying → Spoken → Spoken
first saying spoken = record { says = saying ∷ spoken.says; wants = spoken.wants }

-- a word as far as the name of this option goes, behind its two hyphens
abbrev pub name_in : Choice → (word : List ℕ) → List ℕ
name_in choice word = take (length choice.name + 2) word

-- an option by its name, with nothing behind it, or a value behind `=`
abbrev pub named : Choice → (word : List ℕ) → (value : Option (List ℕ)) → Spoken
named choice word None = if choice.has_value then wanting choice.name word else only (Gives choice.name [])
named choice word (Some value) = only (if choice.has_value then Gives choice.name value else Errs HasValue (name_in choice word))

-- the same of what stands behind the name; or another option, if that is neither
abbrev pub behind_name : Choice → (word rest : List ℕ) → (other : Spoken) → Spoken
behind_name choice word [] other = named choice word None
behind_name choice word (byte ∷ value) other = if byte == 61 then named choice word (Some value) else other

-- the option of the name that stands behind two hyphens
abbrev pub by_name : List Choice → (word long : List ℕ) → Spoken
by_name [] word long = only (Errs NoSuchName word)
by_name (choice ∷ more) word long =
    if bytes_eq (take (length choice.name) long) choice.name then behind_name choice word (drop (length choice.name) long)
    (by_name more word long) else by_name more word long

-- whether an option has this letter
abbrev pub has_letter : (letter : ℕ) → Choice → Bool
has_letter letter choice = is_letter choice.letter
  where
    is_letter : Option ℕ → Bool
    is_letter None = false
    is_letter (Some own) = own == letter

-- an option with the rest of its word as its value; or the next word, if nothing is left
abbrev pub valued : (name word rest : List ℕ) → Spoken
valued name word [] = wanting name word
valued name word (byte ∷ rest) = only (Gives name (byte ∷ rest))

-- a letter behind one hyphen, with the rest of its word: its value, or more letters
abbrev pub lettered : Option Choice → (letter : ℕ) (word rest : List ℕ) → (others : Spoken) → Spoken
lettered None letter word rest others = only (Errs NoSuchLetter (letter ∷ []))
lettered (Some choice) letter word rest others =
    if choice.has_value then valued choice.name word rest else first (Gives choice.name []) others

abbrev pub by_letters : List Choice → (word letters : List ℕ) → Spoken
by_letters choices word [] = nothing
by_letters choices word (letter ∷ rest) = lettered (find (has_letter letter) choices) letter word rest (by_letters choices word rest)

-- a word in front of `--`: one that begins with a hyphen and goes on gives options, and another is an operand, a hyphen alone too
abbrev pub spoken : List Choice → (word : List ℕ) → Spoken
spoken choices [] = only (Operand [])
spoken choices (byte ∷ []) = only (Operand (byte ∷ []))
spoken choices (byte ∷ next ∷ more) =
    if byte == 45 then (if next == 45 then by_name choices (byte ∷ next ∷ more) more else by_letters choices (byte ∷ next ∷ more) (next ∷ more))
    else only (Operand (byte ∷ next ∷ more))

-- a word, where an option may want it as its value
abbrev pub next_spoken : List Choice → Option Wants → (word : List ℕ) → Spoken
next_spoken choices None word = spoken choices word
next_spoken choices (Some wants) word = only (Gives wants.name word)

-- what words say, where an option may want the first of them. Behind `--` all are operands
abbrev pub said_by : List Choice → Option Wants → (words : List (List ℕ)) → List Saying
said_by choices None [] = []
said_by choices (Some wants) [] = Errs NoValue wants.word ∷ []
said_by choices wants (word ∷ more) = if is_none wants && bytes_eq word dashes then map Operand more else
    (next_spoken choices wants word).says ++ said_by choices (next_spoken choices wants word).wants more

-- what the words of a call say
abbrev pub call_of : List Choice → (words : List (List ℕ)) → List Saying
call_of choices words = said_by choices None words

-- whether a call gives the option of this name, and the values that it gives it
abbrev pub gives_it : (name : List ℕ) → Saying → Bool
gives_it name (Gives other value) = bytes_eq other name
gives_it name (Operand word) = false
gives_it name (Errs misgiven word) = false

abbrev pub given : (name : List ℕ) → List Saying → Bool
given name sayings = list_any (gives_it name) sayings

-- the value that a call gives last to the option of this name
abbrev pub value_after : (name : List ℕ) → Option (List ℕ) → Saying → Option (List ℕ)
value_after name before (Gives other value) = if bytes_eq other name then Some value else before
value_after name before (Operand word) = before
value_after name before (Errs misgiven word) = before

abbrev pub value_of : (name : List ℕ) → List Saying → Option (List ℕ)
value_of name sayings = fold (value_after name) None sayings

-- whether a call gives the option of this name, and behind it none of the other name
abbrev pub last_after : (name other : List ℕ) → Bool → Saying → Bool
last_after name other before (Gives given value) = if bytes_eq given name then true else if bytes_eq given other then false else before
last_after name other before (Operand word) = before
last_after name other before (Errs misgiven word) = before

abbrev pub given_last : (name other : List ℕ) → List Saying → Bool
given_last name other sayings = fold (last_after name other) false sayings

-- the operands
abbrev pub operand_of : Saying → List (List ℕ)
operand_of (Gives name value) = []
operand_of (Operand word) = word ∷ []
operand_of (Errs misgiven word) = []

abbrev pub operands : List Saying → List (List ℕ)
operands sayings = flat_map operand_of sayings

-- what is wrong with an option, and the word or its part that is
abbrev pub wrong_of : Saying → List (Misgiven × List ℕ)
wrong_of (Gives name value) = []
wrong_of (Operand word) = []
wrong_of (Errs misgiven word) = (misgiven, word) ∷ []

abbrev pub wrongs : List Saying → List (Misgiven × List ℕ)
wrongs sayings = flat_map wrong_of sayings

-- the first, if there is one
abbrev pub first_of : {A : Type 0} → List A → Option A
first_of [] = None
first_of (x ∷ more) = Some x

-- how the code tells all this
abbrev pub choice_of : Opt → Choice
choice_of opt = record { letter = opt.letter; name = opt.name.now; has_value = opt.has_value }

abbrev pub choices : List Opt → List Choice
choices opts = map choice_of opts

abbrev pub saying_of : Said → Saying
saying_of (said.Gives name value) = Gives name.now value.now
saying_of (said.Operand word) = Operand word.now
saying_of (said.Errs misgiven word) = Errs misgiven word.now

abbrev pub sayings : List Said → List Saying
sayings said = map saying_of said

abbrev pub wants_of : Wanting → Wants
wants_of wanting = record { name = wanting.name.now; word = wanting.word.now }

-- to what was said a word adds what it says
pub record Adds (before after : List Saying) (wants : Option Wants) (spoken : Spoken) : Type 0 where
  pub says : after ≡ before ++ spoken.says
  pub wanted : wants ≡ spoken.wants

-- the bytes of each word
abbrev pub texts : List (Vec ℕ Global) → List (List ℕ)
texts words = map (λ word. word.items) words
