-- Sound values: what some accepted file gives. Refusal 13 is given for any other ("a behaviour value that no accepted file gives").
use Rattle.std.specs.Prelude.{List, [], ◌∷◌, Bool, true, false, ◌&&◌, ◌||◌, not, ℕ, suc, ◌+◌, leb, ltb, eqb, take, drop}
use Rattle.names.specs.If.{if}
use Rattle.names.specs.Names.{is_name}
use Rattle.behaviour.specs.Limits.{most_states, most_lines}
use Rattle.behaviour.specs.declared.Message.{Message}
use Rattle.behaviour.specs.declared.Behaviour.{Behaviour}

-- the used messages of a value
abbrev pub messages : Behaviour → List Message
messages b = take b.count b.messages

-- "sorted by state and then by name in byte order"
abbrev pub before : Message → Message → Bool
before a b = ltb a.from b.from || (eqb a.from b.from && ltb a.name b.name)

abbrev pub leads : Message → List Message → Bool
leads m [] = true
leads m (x ∷ l) = before m x

unfoldable pub sorted : List Message → Bool
sorted [] = true
sorted (m ∷ l) = leads m l && sorted l

-- "states being 0 to S−1", and a name is 1 to 8 bytes of a–z and 0–9
abbrev pub between : ℕ → Message → Bool
between s m = ltb m.from s && (ltb m.to s && is_name m.name)

unfoldable pub all_between : ℕ → List Message → Bool
all_between s [] = true
all_between s (m ∷ l) = between s m && all_between s l

-- "Unused places are zero"
abbrev pub blank : Message → Bool
blank m = eqb m.from 0 && (eqb m.name 0 && eqb m.to 0)

unfoldable pub all_blank : List Message → Bool
all_blank [] = true
all_blank (m ∷ l) = blank m && all_blank l

-- some message is from the state k
unfoldable pub speaks : ℕ → List Message → Bool
speaks k [] = false
speaks k (m ∷ l) = eqb m.from k || speaks k l

-- "A state's messages are all taken or all sent": the sign 1 or 2; "a state with no message is finished": 0
abbrev pub signed : Bool → ℕ → Bool
signed true g = eqb g 1 || eqb g 2
signed false g = eqb g 0

-- "A finished state has no mark"
abbrev pub markable : ℕ → ℕ → Bool
markable m g = eqb m 0 || (eqb m 1 && not (eqb g 0))

-- each state from k on, by its mark and its sign
unfoldable pub settled : ℕ → List ℕ → List ℕ → List Message → Bool
settled k [] gs l = true
settled k (m ∷ ms) [] l = true
settled k (m ∷ ms) (g ∷ gs) l = signed (speaks k l) g && (markable m g && settled (k + 1) ms gs l)

-- how many states are marked
unfoldable pub total : List ℕ → ℕ
total [] = 0
total (m ∷ l) = if (eqb m 1) (suc (total l)) (total l)

-- S and T in range ("T counts mark lines too"), and all of the above
unfoldable pub sound : Behaviour → Bool
sound b =
    leb 1 b.states && (leb b.states most_states && (leb (b.count + total b.marks) most_lines
    && (all_between b.states (messages b) && (sorted (messages b) && (all_blank (drop b.count b.messages)
    && settled 0 b.marks b.signs (messages b))))))
