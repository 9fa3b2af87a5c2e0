-- Control requests (document 01, "Control requests"; USB 2.0, 9.3 and 9.4; BOT 3): type and request, then value, index and length.
-- Whether the device must be configured is not decided here.
use Rattle.std.specs.Prelude.{ℕ, Bool, List, [], ◌∷◌, Option, None, Some, eqb, leb, length}
use Rattle.wire.specs.Choice.{when◌then◌else◌, ◌and◌, Row, row, look}
use Rattle.wire.specs.Slices.{bytes_at}
use Rattle.wire.specs.Numbers.{little, big}
use Rattle.usb.specs.declared.descriptor.Descriptor.{Descriptor}
use Rattle.usb.specs.declared.descriptor.Descriptor.TheVariants as descriptor
use Rattle.usb.specs.declared.request.Endpoint.{Endpoint}
use Rattle.usb.specs.declared.request.Endpoint.TheVariants.{Control, BulkIn, BulkOut}
use Rattle.usb.specs.declared.request.Request.{Request}
use Rattle.usb.specs.declared.request.Request.TheVariants.{SetAddress, SetConfiguration, GetConfiguration, GetDeviceStatus, GetInterfaceStatus, GetEndpointStatus, ClearHalt, SetHalt, MassStorageReset, GetMaxLun, GetDescriptor, Stall}

-- What a type and request ask for, by value, index and length.
abbrev pub Fields : Type 0
Fields = ℕ → ℕ → ℕ → Request

unfoldable pub is_no_data : ℕ → ℕ → ℕ → ℕ → Bool
is_no_data most value index wlength = leb value most and eqb index 0 and eqb wlength 0

-- "00 05 address 0..7F, 0, 0"
unfoldable pub set_address : Fields
set_address v i l = when is_no_data 0x7F v i l then SetAddress v else Stall

-- "00 09 value 0 or 1, 0, 0"
unfoldable pub set_configuration : Fields
set_configuration v i l = when is_no_data 1 v i l then SetConfiguration v else Stall

-- value 0, index 0, and this length
unfoldable pub bare : ℕ → Request → Fields
bare wanted r v i l = when eqb v 0 and eqb i 0 and eqb l wanted then r else Stall

-- "for 81 and 02"; "for 00 and 80"
unfoldable pub endpoints : List (Row (Option Endpoint))
endpoints =
    row 0x0000 (Some Control)
    ∷ row 0x0080 (Some Control)
    ∷ row 0x0081 (Some BulkIn)
    ∷ row 0x0002 (Some BulkOut)
    ∷ []

unfoldable pub endpoint_of : ℕ → Option Endpoint
endpoint_of index = look endpoints index None

unfoldable pub target_of : ℕ → ℕ → ℕ → ℕ → Option Endpoint
target_of wanted v i l = when eqb v 0 and eqb l wanted then endpoint_of i else None

abbrev pub aimed : (Endpoint → Request) → Option Endpoint → Request
aimed f None = Stall
aimed f (Some e) = f e

-- value 0, index an endpoint, and this length
abbrev pub at_endpoint : ℕ → (Endpoint → Request) → Fields
at_endpoint wanted f v i l = aimed f (target_of wanted v i l)

-- "first min(length, size) bytes of a descriptor: 0100 device, 0200 configuration, 0300 languages, all with index 0; strings 0301, 0302, 0303 with index 0409"
unfoldable pub served : Descriptor → ℕ → ℕ → ℕ → Request
served d wanted i l = when eqb i wanted then GetDescriptor d l else Stall

unfoldable pub descriptors : List (Row (ℕ → ℕ → Request))
descriptors =
    row 0x0100 (served descriptor.Device 0)
    ∷ row 0x0200 (served descriptor.Configuration 0)
    ∷ row 0x0300 (served descriptor.Languages 0)
    ∷ row 0x0301 (served descriptor.Vendor 0x0409)
    ∷ row 0x0302 (served descriptor.Product 0x0409)
    ∷ row 0x0303 (served descriptor.Serial 0x0409)
    ∷ []

unfoldable pub get_descriptor : Fields
get_descriptor v i l = look descriptors v (λ _ _. Stall) i l

-- "Any other request stalls and changes nothing."
unfoldable pub requests : List (Row Fields)
requests =
    row 0x0005 set_address
    ∷ row 0x0009 set_configuration
    ∷ row 0x8008 (bare 1 GetConfiguration)
    ∷ row 0x8000 (bare 2 GetDeviceStatus)
    ∷ row 0x8100 (bare 2 GetInterfaceStatus)
    ∷ row 0x8200 (at_endpoint 2 GetEndpointStatus)
    ∷ row 0x0201 (at_endpoint 0 ClearHalt)
    ∷ row 0x0203 (at_endpoint 0 SetHalt)
    ∷ row 0x21FF (bare 0 MassStorageReset)
    ∷ row 0xA1FE (bare 1 GetMaxLun)
    ∷ row 0x8006 get_descriptor
    ∷ []

unfoldable pub decided : ℕ → Fields
decided key = look requests key (λ _ _ _. Stall)

-- "Fields are little endian."
unfoldable pub request_of : List ℕ → Request
request_of s =
    when eqb (length s) 8
    then decided (big (bytes_at 2 0 s)) (little (bytes_at 2 2 s)) (little (bytes_at 2 4 s)) (little (bytes_at 2 6 s))
    else Stall
