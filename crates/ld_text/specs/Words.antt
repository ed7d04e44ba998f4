-- The words of the program's texts [this project's own].
use Rattle.std.specs.Prelude.{◌++◌, Bool, List, codes, decimal, false, slice_get, true, unwrap_or, ℕ}
use Rattle.ld_text.specs.Names.{En, Er, Frame, Hardirq, Kind, Name, Sn, Softirq, Sr, Task}

-- a text, as its bytes
abbrev pub Text : Type 0
Text = List ℕ

-- what texts call the trace at this place: its file, or standard input where no file is named
abbrev pub file_at : List Text → ℕ → Text
file_at files place = unwrap_or (slice_get files place) (codes "stdin")

-- a key: its class's name, a slash and its subclass
abbrev pub key_text : Name → List ℕ
key_text name = name.0 ++ (codes "/" ++ decimal name.1)

-- a kind's word
abbrev pub kind_text : Kind → List ℕ
kind_text Er = codes "ER"
kind_text En = codes "EN"
kind_text Sr = codes "SR"
kind_text Sn = codes "SN"

-- a frame's word
abbrev pub frame_text : Frame → List ℕ
frame_text Task = codes "task"
frame_text Softirq = codes "softirq"
frame_text Hardirq = codes "hardirq"

-- a flag's word
abbrev pub flag_text : Bool → List ℕ
flag_text true = codes "on"
flag_text false = codes "off"
