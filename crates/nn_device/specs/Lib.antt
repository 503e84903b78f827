pub mod Device
pub mod DeviceRows
pub mod Parts
pub mod PartRows
pub mod Page
pub mod PageRows
