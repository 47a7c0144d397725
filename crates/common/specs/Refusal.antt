-- The number, the name and the address of each refusal (document 01, "What a call can say"; request [2]: "11 Width"; request [8]: "16 Edition"; request [11]:
-- "18 FewLinks"; request [6]: "23 Padding"; request [13]: "21 ZeroByte", "22 NotTextBlock"; request [7]: "12 NotText", "13 Repeated", "14 Key",
-- "15 WrongType"). Assumes nothing: these are definitions.
use Rattle.std.specs.Prelude.{ℕ, Option, Some, None, List, codes}
use Rattle.common.specs.declared.refusal.Refusal.{Refusal}
use Rattle.common.specs.declared.refusal.Refusal.TheVariants.{Outside, NotConversion, Limit, Short, Deep, Loop, Formula, Room, Count, Width, NotText, Repeated, Key, WrongType, Edition, FewLinks, ZeroByte, NotTextBlock, Padding}

abbrev pub number_of : Refusal → ℕ
number_of (Outside a) = 1
number_of (NotConversion a) = 2
number_of (Limit a) = 3
number_of (Short a) = 4
number_of (Deep a) = 5
number_of (Loop a) = 6
number_of Formula = 7
number_of Room = 8
number_of Count = 9
number_of Width = 11
number_of (NotText i) = 12
number_of (Repeated i) = 13
number_of (Key i) = 14
number_of (WrongType a) = 15
number_of Edition = 16
number_of (FewLinks a) = 18
number_of ZeroByte = 21
number_of (NotTextBlock a) = 22
number_of Padding = 23

-- and its name
abbrev pub name_of : Refusal → List ℕ
name_of (Outside a) = codes "Outside"
name_of (NotConversion a) = codes "NotConversion"
name_of (Limit a) = codes "Limit"
name_of (Short a) = codes "Short"
name_of (Deep a) = codes "Deep"
name_of (Loop a) = codes "Loop"
name_of Formula = codes "Formula"
name_of Room = codes "Room"
name_of Count = codes "Count"
name_of Width = codes "Width"
name_of (NotText i) = codes "NotText"
name_of (Repeated i) = codes "Repeated"
name_of (Key i) = codes "Key"
name_of (WrongType a) = codes "WrongType"
name_of Edition = codes "Edition"
name_of (FewLinks a) = codes "FewLinks"
name_of ZeroByte = codes "ZeroByte"
name_of (NotTextBlock a) = codes "NotTextBlock"
name_of Padding = codes "Padding"

-- 1 to 6, 15, 18 and 22 also the block or link address
abbrev pub address_of : Refusal → Option ℕ
address_of (Outside a) = Some a
address_of (NotConversion a) = Some a
address_of (Limit a) = Some a
address_of (Short a) = Some a
address_of (Deep a) = Some a
address_of (Loop a) = Some a
address_of Formula = None
address_of Room = None
address_of Count = None
address_of Width = None
address_of (NotText i) = None
address_of (Repeated i) = None
address_of (Key i) = None
address_of (WrongType a) = Some a
address_of Edition = None
address_of (FewLinks a) = Some a
address_of ZeroByte = None
address_of (NotTextBlock a) = Some a
address_of Padding = None

-- 12 to 14 also the index of the key
abbrev pub index_of : Refusal → Option ℕ
index_of (Outside a) = None
index_of (NotConversion a) = None
index_of (Limit a) = None
index_of (Short a) = None
index_of (Deep a) = None
index_of (Loop a) = None
index_of Formula = None
index_of Room = None
index_of Count = None
index_of Width = None
index_of (NotText i) = Some i
index_of (Repeated i) = Some i
index_of (Key i) = Some i
index_of (WrongType a) = None
index_of Edition = None
index_of (FewLinks a) = None
index_of ZeroByte = None
index_of (NotTextBlock a) = None
index_of Padding = None
