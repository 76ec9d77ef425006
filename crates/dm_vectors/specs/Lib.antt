pub mod TestDevices
