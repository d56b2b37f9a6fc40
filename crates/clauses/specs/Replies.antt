-- The answers of SIZE, ENCODE and DECODE as the code has them: document 01's number and place for a refusal, and the values otherwise.
use Rattle.std.specs.Prelude.{ℕ, List, ℤ}
use Rattle.design.specs.Answer.{Answer, refused, answer}
use Rattle.clauses.specs.Admission.{admit}
use Rattle.clauses.specs.FrameSizes.{frame_sizes}
use Rattle.clauses.specs.Size.{Sizes}
use Rattle.clauses.specs.Encode.{AfterEncode, encode}
use Rattle.clauses.specs.Decode.{AfterDecode, decode}
use Rattle.clauses.specs.declared.frame.FrameSizes.{FrameSizes}
use Rattle.clauses.specs.declared.frame.FormulaSizes.{FormulaSizes}

-- what every call about a formula refuses first, or else the sizes of a frame
abbrev pub admission_sizes : List ℕ → List ℕ → ℕ → ℕ → Answer FrameSizes
admission_sizes file piece p k = admit file piece p k (λ d q. answer (frame_sizes d q))

-- "S, P, w, G, n and the whole formula's clauses and words"
abbrev pub seven_of : Sizes → FormulaSizes
seven_of s = record {
  bits = s.state_bits;
  property = s.property_gates;
  movers = s.movers;
  step = s.step_gates;
  variables = s.variables;
  clauses = s.clauses;
  words = s.words;
}

abbrev pub size_reply : Answer Sizes → Answer FormulaSizes
size_reply (refused number place) = refused number place
size_reply (answer s) = answer (seven_of s)

-- ENCODE's whole exit: the reply, and the lent buffer after the call
pub record EncodeExit : Type 0 where
  pub reply : Answer ℕ
  pub buffer : List ℤ

abbrev pub encode_exit : AfterEncode → EncodeExit
encode_exit e = record { reply = e.answer; buffer = e.buffer }

abbrev pub ENCODE : List ℕ → List ℕ → ℕ → ℕ → ℕ → List ℤ → EncodeExit
ENCODE file piece p k i buffer = encode_exit (encode file piece p k i buffer)

-- DECODE's whole exit: the reply, and the lent choices after the call
pub record DecodeExit : Type 0 where
  pub reply : Answer (Unit {0})
  pub choices : List ℕ

abbrev pub decode_exit : AfterDecode → DecodeExit
decode_exit d = record { reply = d.answer; choices = d.choices }

abbrev pub DECODE : List ℕ → List ℕ → ℕ → ℕ → List ℕ → List ℕ → DecodeExit
DECODE file piece p k values choices = decode_exit (decode file piece p k values choices)
