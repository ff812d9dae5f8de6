-- The words of each refusal, which stand behind its number on standard error (G7).
use Rattle.std.specs.Prelude.{ℕ, List, [], ◌∷◌, get_or}
use Prim.Native.Char.{code}
use Prim.Native.String as string

-- a text as its bytes
abbrev pub ascii : string.String → List ℕ
ascii string.[] = []
ascii (string.◌∷◌ c s) = code c ∷ ascii s

-- by number, from 0, which no refusal has
unfoldable pub words : List string.String
words =
    ""
    ∷ "the mtu is over its limit"
    ∷ "the unit is over its limit"
    ∷ "an OBU's extension byte is missing"
    ∷ "an OBU's size field is missing"
    ∷ "the unit ends inside a size field"
    ∷ "a size field is too long or its value too large"
    ∷ "an OBU runs past the end of the unit"
    ∷ "the OBU list is full"
    ∷ "the plan list is too short"
    ∷ "the output is too short for the payloads"
    ∷ "no such packet, or its record does not fit"
    ∷ "the state does not fit its store"
    ∷ "the payload is empty or over its limit"
    ∷ "the number is not ahead"
    ∷ "N and Z are both set"
    ∷ "an element's length field is bad or missing"
    ∷ "an element is empty, missing or past the end"
    ∷ "a finished OBU is not well formed"
    ∷ "the open fragment is too long"
    ∷ "the output is too short for the OBUs"
    ∷ "no train of a known version"
    ∷ "the train ends inside a record"
    ∷ "a record's length is below 3"
    ∷ "the RTP header is cut short"
    ∷ "the header extension is cut short"
    ∷ "an extension element runs past its block"
    ∷ "a header field is out of range"
    ∷ "the buffer or a list is too short for the header"
    ∷ "a size does not end within its outer one"
    ∷ "an OBU length is 0 or a size runs past its outer one"
    ∷ "the list or the plan is not that of this unit"
    ∷ "a sum is over its limit"
    ∷ "the mtu is too small for an RTP header"
    ∷ "the time is out of range"
    ∷ "the ends of frame units are not those of OBUs"
    ∷ "Z is set and nothing is open in step"
    ∷ "Z is clear and an element is open in step"
    ∷ "a finished OBU has its size bit set"
    ∷ "an element's length field is padded"
    ∷ "a finished OBU is of a dropped type"
    ∷ []

-- the words of a number; none, where no refusal has it
unfoldable pub words_of : ℕ → List ℕ
words_of n = ascii (get_or words n "")

-- the bytes of all words: more than those of one refusal
abbrev pub words_most : ℕ
words_most = 1410
